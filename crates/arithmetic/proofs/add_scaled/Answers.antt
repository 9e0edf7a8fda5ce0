use mathlib.Core.Path.{ap₂, ◌∙◌}
use Prim.Native.Nat.{◌-◌}
use native.Mathlib.Omega.{arith}
use Rattle.algebra.proofs.Writing.{writing_none, writing_more, writing_done}
use Rattle.field.specs.Field.{plus}
use Rattle.arithmetic.proofs.add_scaled.Goals as goal

pub loop-p-init : goal.loop-p-init
loop-p-init c = writing_none (omega arith)

pub loop-p-preserved : goal.loop-p-preserved
loop-p-preserved c =
    let l = c.loop-p in
    writing_more c.loop-p-test.true c.requires.1
    (c.add.ensures ∙ ap₂ (plus c.args.field) (l.invariant.done.behind l.p (omega arith)) c.product-s.ensures) l.invariant

pub shape_of-target : goal.shape_of-target
shape_of-target c = c.loop-p.invariant.done.size

pub returns : goal.returns
returns c = writing_done c.loop-p-test.false c.loop-p.invariant
