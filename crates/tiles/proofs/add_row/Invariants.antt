use mathlib.Core.Path.{◌≡◌}
use Prim.Native.Nat.{ℕ}
use lib.ListN.{length}
use Rattle.algebra.specs.Sequence.{tabulate}
use Rattle.tiles.proofs.Tiles.{row_added}
use Rattle.tiles.proofs.add_row.Given as goal

abbrev pub invariant-loop-k : goal.invariant-loop-k
invariant-loop-k l =
    (length l.t ≡ length l.initial.t)
    × ((b : ℕ → ℕ) → l.initial.t ≡ tabulate (row_added l.strips l.offsets l.m l.c b (length l.initial.t) l.start) (length l.initial.t) → l.t ≡ tabulate (row_added l.strips l.offsets l.m l.c b (length l.initial.t) l.k) (length l.initial.t))
