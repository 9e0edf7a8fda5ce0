-- Entries of lists of numbers. Assumes nothing.
--   at_map                      of a list made of a list
--   at_past                     past the end
--   at_replicate, at_zeros      of a list of one value
use mathlib.Core.Path.{◌≡◌, refl}
use mathlib.Core.List.{List, [], ◌∷◌, map}
use Prim.Native.Nat.{ℕ, zero, suc, ◌≤◌, ◌<◌}
use native.Mathlib.Nat.{not-suc-le-zero, le_of_suc-le-suc}
use lib.ListN.{length, replicate}
use Rattle.algebra.specs.Sequence.{at}

pub at_map : (f : ℕ → ℕ) (xs : List ℕ) (i : ℕ) → i < length xs → at (map f xs) i ≡ f (at xs i)
at_map f [] i h = absurd (not-suc-le-zero h)
at_map f (x ∷ xs) zero h = refl
at_map f (x ∷ xs) (suc i) h = at_map f xs i (le_of_suc-le-suc h)

pub at_past : (xs : List ℕ) (i : ℕ) → length xs ≤ i → at xs i ≡ 0
at_past [] i h = refl
at_past (x ∷ xs) zero h = absurd (not-suc-le-zero h)
at_past (x ∷ xs) (suc i) h = at_past xs i (le_of_suc-le-suc h)

pub at_replicate : (n v i : ℕ) → i < n → at (replicate n v) i ≡ v
at_replicate zero v i h = absurd (not-suc-le-zero h)
at_replicate (suc n) v zero h = refl
at_replicate (suc n) v (suc i) h = at_replicate n v i (le_of_suc-le-suc h)

pub at_zeros : (n i : ℕ) → at (replicate n 0) i ≡ 0
at_zeros zero i = refl
at_zeros (suc n) zero = refl
at_zeros (suc n) (suc i) = at_zeros n i
