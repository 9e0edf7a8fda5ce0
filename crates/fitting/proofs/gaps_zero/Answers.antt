use native.Mathlib.Omega.{arith}
use Rattle.fitting.proofs.Interpolating.{gap_room, gaps_none, gaps_some}
use Rattle.fitting.proofs.gaps_zero.Goals as goal

pub bounds-coefs-j : goal.bounds-coefs-j
bounds-coefs-j c = rw c.size_of-size.ensures (gap_room c.args.shape c.requires c.loop-j.j c.loop-j-test.true)

pub returns-then-coefs-j-ne0 : goal.returns-then-coefs-j-ne0
returns-then-coefs-j-ne0 c =
    gaps_some c.args.shape c.args.coefs.now c.size_of-size.result c.size_of-size.ensures c.loop-j.j c.loop-j-test.true c.if-coefs-j-ne0.true

pub returns : goal.returns
returns c =
    gaps_none c.args.shape c.args.coefs.now c.size_of-size.result c.size_of-size.ensures (λ j h. c.loop-j.invariant j (omega arith))
