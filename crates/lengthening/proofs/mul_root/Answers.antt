use mathlib.Core.Path.{◌≡◌, refl, ap, ap₂, ◌∙◌}
use Prim.Native.Nat.{suc, ◌+◌}
use native.Mathlib.Omega.{arith}
use Rattle.algebra.proofs.Writing.{writing_none, writing_more}
use Rattle.field.specs.Field.{plus, times}
use Rattle.lengthening.specs.Step.{lower}
use Rattle.lengthening.proofs.mul_root.Goals as goal

pub loop-p-init : goal.loop-p-init
unfolding lower
loop-p-init c = (writing_none (omega arith), refl)

pub loop-p-preserved : goal.loop-p-preserved
unfolding lower
loop-p-preserved c =
    let l = c.loop-p in
    let f = c.args.field in
    let next : suc l.p ≡ l.p + 1 = omega arith in
    let own = l.invariant.0.done.behind l.p (omega arith) in (
      writing_more c.loop-p-test.true (omega (arith, c.requires.0, c.requires.1))
          (c.mul_add.ensures ∙ ap₂ (plus f) l.invariant.1 (ap₂ (times f) c.sub-k.ensures own)) l.invariant.0,
      own ∙ ap (lower c.args.coefs.now) next,
    )
