use mathlib.Core.Path.{◌≡◌}
use Prim.Native.Nat.{ℕ, ◌≤◌, ◌<◌}
use lib.ListN.{length}
use Rattle.algebra.specs.Sequence.{at}
use Rattle.questions.proofs.highest.Given as goal

abbrev pub invariant-loop-x : goal.invariant-loop-x
invariant-loop-x l = ((k : ℕ) × (k < length l.entries) × (at l.entries k ≡ l.high)) × ((k : ℕ) → k < l.x-index → at l.entries k ≤ l.high)
