use mathlib.Core.Path.{◌≡◌, refl, sym, ap, ◌∙◌}
use Prim.Native.Nat.{suc, ◌+◌}
use native.Mathlib.Omega.{arith}
use Rattle.field.specs.Field.{power, times}
use Rattle.tile_evaluation.proofs.Weights.{weighed_none, weighed_more}
use Rattle.tile_evaluation.proofs.power_weights.Goals as goal

pub loop-e-init : goal.loop-e-init
unfolding power
loop-e-init c = (refl, weighed_none c.args.x)

pub loop-e-preserved : goal.loop-e-preserved
unfolding power
loop-e-preserved c =
    let l = c.loop-e in
    let x = c.args.x in
    let next : l.e + 1 ≡ suc l.e = omega arith in (
      c.mul-power.ensures ∙ ap (times 1 x) l.invariant.0 ∙ ap (power 1 x) (sym next),
      weighed_more x l.e l.power l.weights (omega arith) l.invariant.0 l.invariant.1,
    )
