use lib.ListN.{length}
use native.Mathlib.Omega.{arith}
use Rattle.algebra.proofs.Counting.{count_most}
use Rattle.interpolation.specs.Step.{kept}
use Rattle.annihilator.proofs.Places.{vanishes_lost, vanishes_more}
use Rattle.annihilator.proofs.take_place.Goals as goal

pub returns-then-lost : goal.returns-then-lost
returns-then-lost c =
    let a = c.args in
    vanishes_lost a.field a.points.now a.marks.now a.i a.c a.row.now c.requires.3 c.if-lost.true

-- fewer factors than places
pub block_end-to-requires : goal.block_end-to-requires
block_end-to-requires c = omega (arith, c.requires.3.taken, count_most (kept c.args.marks.now) c.args.i)

pub returns : goal.returns
returns c =
    let a = c.args in
    let w = c.block_end-to in
    vanishes_more a.field a.points.now a.marks.now a.i a.c a.row.now c.requires.3 (length a.marks.now) w.result c.mul_linear.new.basis
    c.requires.1 w.ensures.0 c.if-lost.false c.requires.2 c.mul_linear.ensures
