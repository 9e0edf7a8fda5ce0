use mathlib.Core.Path.{◌≡◌}
use Prim.Native.Nat.{ℕ, ◌<◌}
use lib.ListN.{length}
use Rattle.algebra.specs.Sequence.{at}
use Rattle.bit_planes.proofs.Exchanges.{Own}
use Rattle.bit_planes.proofs.exchange.Given as goal

-- the entries below p are exchanged
abbrev pub invariant-loop-p : goal.invariant-loop-p
invariant-loop-p g l = (length l.z ≡ 8) × ((q : ℕ) → q < l.p → Own g.row.J l.v q (at l.z q))
