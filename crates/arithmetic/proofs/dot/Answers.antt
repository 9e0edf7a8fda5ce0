use mathlib.Core.Path.{◌≡◌, ap, ◌∙◌}
use Prim.Native.Nat.{◌-◌}
use native.Mathlib.Omega.{arith}
use lib.ListN.{take}
use Rattle.algebra.specs.Sequence.{at}
use Rattle.field.specs.Field.{plus, times}
use Rattle.field.specs.Polynomial.{dotted}
use Rattle.field.proofs.Products.{dotted_none, dotted_last}
use Rattle.arithmetic.proofs.dot.Goals as goal

pub loop-i-init : goal.loop-i-init
loop-i-init c =
    let a = c.args in
    dotted_none a.field a.a.now a.b.now

pub loop-i-preserved : goal.loop-i-preserved
loop-i-preserved c =
    let l = c.loop-i in
    let a = c.args in
    c.mul_add-sum.ensures
    ∙ ap (λ x. plus a.field x (times a.field (at a.a.now l.i) (at a.b.now l.i))) l.invariant
    ∙ dotted_last a.field l.i a.a.now a.b.now (omega arith) (omega arith)
