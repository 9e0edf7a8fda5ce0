-- Rebuilt strips. Assumes nothing.
--   strip_is            a rebuilt strip, by the array of weights
--   strip_at            one symbol of it: the repair of its column
use mathlib.Core.Path.{◌≡◌, ap, ap₂, ◌∙◌}
use mathlib.Core.List.{List}
use Prim.Native.Nat.{ℕ, ◌<◌}
use lib.ListN.{length, take}
use Rattle.algebra.specs.Sequence.{at, tabulate, column}
use Rattle.algebra.proofs.Tabulate.{at_tabulate}
use Rattle.field.specs.Polynomial.{dotted, weighed}
use Rattle.code.specs.declared.Shape.{Shape}
use Rattle.code.specs.Shape.{mates}
use Rattle.code.specs.Repair.{weights, restored, repaired, strip}
use Rattle.code.specs.Laws.{Mending}
use Rattle.weights.specs.Weights.{sixteen}
use Rattle.weights.proofs.Weighing.{take_weights}

pub strip_is : (s : Shape) → Mending s → (p : ℕ) → p < s.n → (l : ℕ) (ws xs : List ℕ) → ws ≡ sixteen (weights s p) → (k : ℕ) → k ≡ length (mates s p)
    → weighed s.field ws k l xs ≡ strip s p l xs
unfolding strip repaired restored weights
strip_is s M p h l ws xs w k e =
    ap₂ (λ vs k. tabulate (λ i. dotted s.field vs (column k l i xs)) l) (ap (λ k. take k ws) e ∙ take_weights s M p h ws w) e

pub strip_at : (s : Shape) (p l : ℕ) (xs : List ℕ) (i : ℕ) → i < l → at (strip s p l xs) i ≡ repaired s p (column (length (mates s p)) l i xs)
unfolding strip
strip_at s p l xs i b = at_tabulate (λ i. repaired s p (column (length (mates s p)) l i xs)) 0 l i b
