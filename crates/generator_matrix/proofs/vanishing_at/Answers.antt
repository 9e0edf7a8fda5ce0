use mathlib.Core.Path.{ap, ◌∙◌}
use Prim.Native.Nat.{◌-◌}
use native.Mathlib.Omega.{arith}
use Rattle.field.specs.Field.{minus, times}
use Rattle.code.proofs.Places.{missing_inside}
use Rattle.code.proofs.Bounds.{room_byte}
use Rattle.code.proofs.Vanishing.{vanish_none, vanish_more, vanish_done}
use Rattle.generator_matrix.proofs.vanishing_at.Goals as goal

pub loop-i-init : goal.loop-i-init
loop-i-init c =
    vanish_none c.args.shape c.args.x c.missing_of-i.result c.missing_of-i.ensures

pub overflow_add-shape : goal.overflow_add-shape
overflow_add-shape c =
    omega (arith, room_byte c.args.shape c.requires, missing_inside c.args.shape c.requires (c.loop-i.i - 1) (omega (arith, c.missing_of-i.ensures)))

pub point_of-requires : goal.point_of-requires
point_of-requires c =
    (c.requires, missing_inside c.args.shape c.requires (c.loop-i.i - 1) (omega (arith, c.missing_of-i.ensures)))

pub loop-i-preserved : goal.loop-i-preserved
loop-i-preserved c =
    let l = c.loop-i in
    let f = c.args.shape.field in
    vanish_more c.args.shape c.args.x l.i (l.i - 1) l.product c.mul-product.result (omega arith) (omega (arith, c.missing_of-i.ensures)) l.invariant
    (c.mul-product.ensures ∙ ap (λ y. times f y l.product) (c.sub-factor.ensures ∙ ap (minus f c.args.x) c.point_of.ensures))

pub returns : goal.returns
returns c =
    let a = c.args in
    let l = c.loop-i in
    vanish_done a.shape a.x l.i l.product (omega arith) l.invariant
