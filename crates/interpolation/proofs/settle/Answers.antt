use lib.ListN.{length}
use native.Mathlib.Omega.{arith}
use Rattle.algebra.proofs.Counting.{count_most}
use Rattle.interpolation.specs.Step.{kept}
use Rattle.interpolation.proofs.Settling.{count_step, begun}
use Rattle.interpolation.proofs.settle.Goals as goal

pub loop-i-init : goal.loop-i-init
loop-i-init c =
    let a = c.args in
    let b = begun a.field (length a.marks.now) a.points.now a.rests.now a.marks.now a.coefs.now c.requires.3 c.requires.4 c.requires.5 c.requires.0 c.requires.1 c.requires.2 in
    (omega arith, b.0, b.1)

pub advance-c-requires : goal.advance-c-requires
advance-c-requires c =
    let l = c.loop-i in
    let m = length c.args.marks.now in
    (c.requires.3, omega arith, omega (arith, c.requires.3, c.requires.6, count_most (kept c.args.marks.now) m), c.requires.4, l.invariant.1)

pub loop-i-preserved : goal.loop-i-preserved
loop-i-preserved c =
    let l = c.loop-i in
    let d = c.advance-c in
    let N = d.ensures.1 c.args.rests.now l.invariant.2 in
    (omega (arith, N.taken, l.invariant.2.taken, count_step (kept c.args.marks.now) l.i), d.ensures.0, N)
