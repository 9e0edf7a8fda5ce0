use mathlib.Core.Path.{◌≡◌}
use native.Mathlib.Omega.{arith}
use Rattle.linear.proofs.Elimination.{placed_last}
use Rattle.linear.proofs.place.Goals as goal

pub returns : goal.returns
returns c =
    let s = c.args in
    let l = c.loop-j in
    let e : l.j ≡ s.k = omega arith in
    placed_last s.field s.k s.work.now l.work l.invariant.1 (rw e at l.invariant.0)
