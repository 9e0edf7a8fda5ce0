use mathlib.Core.Path.{◌≡◌, subst}
use Prim.Native.Nat.{suc, ◌-◌}
use native.Mathlib.Omega.{arith}
use lib.ListN.{length, drop}
use Rattle.local_code.specs.Step.{ValuesAt}
use Rattle.local_code.proofs.Horner.{values_none, values_more}
use Rattle.local_code.proofs.values_at.Goals as goal

pub loop-i-init : goal.loop-i-init
loop-i-init c =
    let a = c.args in
    let xs = a.points.now in
    values_none a.field a.coefficients.now xs (length xs) c.requires

pub loop-i-preserved : goal.loop-i-preserved
loop-i-preserved c =
    let a = c.args in
    let l = c.loop-i in
    let xs = a.points.now in
    let cs = a.coefficients.now in
    let i = l.i - 1 in
    let e : l.i ≡ suc i = omega arith in
    values_more a.field cs xs (length xs) c.requires i l.values c.horner_step.new.values (omega arith) c.horner_step.ensures
    (subst (λ n. ValuesAt a.field (drop n cs) xs (length xs) l.values) e l.invariant)
