use mathlib.Core.Path.{◌≡◌, subst}
use Prim.Native.Nat.{suc, ◌-◌}
use native.Mathlib.Omega.{arith}
use Rattle.shortening.proofs.Division.{Dividing, dividing_none, dividing_more}
use Rattle.shortening.proofs.div_root.Goals as goal

pub loop-i-init : goal.loop-i-init
loop-i-init c = let a = c.args in dividing_none a.field a.y 16 a.coefs.now (omega (arith, c.requires))

pub loop-i-preserved : goal.loop-i-preserved
loop-i-preserved c =
    let a = c.args in
    let l = c.loop-i in
    let i = l.i - 1 in
    let e : l.i ≡ suc i = omega arith in
    dividing_more a.field a.y i l.value c.mul_add-value.result a.coefs.now l.coefs (omega (arith, c.requires)) c.mul_add-value.ensures
    (subst (λ n. Dividing a.field a.y n l.value a.coefs.now l.coefs) e l.invariant)
