use mathlib.Core.Path.{◌≡◌}
use mathlib.Core.Bool.{Bool}
use mathlib.Core.List.{List}
use Prim.Native.Nat.{ℕ, ◌+◌, ◌*◌}
use Rattle.algebra.specs.Sequence.{count}
use Rattle.code.specs.Decoding.{lost}
use Rattle.questions.proofs.losses_from.Given as goal

-- the mark of member i
abbrev pub lost_at : (marks : List ℕ) → (first step i : ℕ) → Bool
lost_at ms f t i = lost ms (f + i * t)

abbrev pub invariant-loop-i : goal.invariant-loop-i
invariant-loop-i l = l.lost ≡ count (lost_at l.marks l.first l.step) l.i
