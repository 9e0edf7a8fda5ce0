use mathlib.Core.Path.{ap, ◌∙◌}
use Prim.Native.Nat.{◌+◌}
use native.Mathlib.Omega.{arith}
use Rattle.algebra.specs.Sequence.{at}
use Rattle.algebra.proofs.Writing.{laid_more}
use Rattle.field.specs.Field.{xor_from}
use Rattle.field.proofs.Xor.{xor_is}
use Rattle.plane_sums.proofs.add_to.Goals as goal

pub loop-i-preserved : goal.loop-i-preserved
loop-i-preserved c =
    let l = c.loop-i in
    let a = c.args in
    let L = l.invariant in
    let x = at a.tiles.now (a.a + l.i) in
    let y = at l.table (a.b + l.i) in
    laid_more (omega (arith, L.written.size))
    (xor_is 8 x y (omega (arith, c.type_inv.tiles (a.a + l.i))) (omega arith)
    ∙ ap (xor_from 8 x) (L.written.before (a.b + l.i) (omega arith)))
    L
