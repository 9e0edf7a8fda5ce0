-- Entries of a strand. Assumes nothing.
--   strand_at    entry a of strand i is entry a r + i of the list
use mathlib.Core.Path.{◌≡◌, refl, sym, ap, ◌∙◌}
use mathlib.Core.List.{List, [], ◌∷◌}
use Prim.Native.Nat.{ℕ, zero, suc, ◌+◌, ◌*◌, ◌/◌, ◌%◌, ◌≤◌, ◌<◌}
use native.Mathlib.Nat.{div-add-mod', lt_of_mul-lt-mul_right}
use native.Mathlib.Decide.{dec_lt}
use native.Mathlib.Omega.{arith}
use lib.Arith.{digits_mod}
use Rattle.algebra.specs.Sequence.{at}
use Rattle.algebra.specs.Strand.{strand}
use Rattle.algebra.proofs.Strides.{row_step}
use Rattle.algebra.proofs.Strands.{strand_own, strand_other}

module _ (r i : ℕ) (h : i < r) where
  -- from entry m on: the first entry of the strand is entry t r + i
  strand_from : (xs : List ℕ) (m t a d : ℕ) → m ≤ t * r + i → t * r + i < m + r → m + d ≡ (t + a) * r + i → at (strand r i m xs) a ≡ at xs d
  unfolding strand
  strand_from [] m t a d b c e = refl
  strand_from (x ∷ xs) m t a d b c e = go (dec_lt m (t * r + i)) (strand_from xs (suc m))
    where
      Rest : Type 0
      Rest = (t a d : ℕ) → suc m ≤ t * r + i → t * r + i < suc m + r → suc m + d ≡ (t + a) * r + i → at (strand r i (suc m) xs) a ≡ at xs d

      own : m ≡ t * r + i → Rest → (a d : ℕ) → m + d ≡ (t + a) * r + i → at (x ∷ strand r i (suc m) xs) a ≡ at (x ∷ xs) d
      own o rest zero zero e = refl
      own o rest zero (suc d) e = absurd (omega arith)
      own o rest (suc a) zero e = absurd (omega arith)
      own o rest (suc a) (suc d) e = rest (suc t) a d (omega arith) (omega arith) (omega arith)

      apart : m < t * r + i → i ≡ m % r → ⊥
      apart l o =
          let w : m / r * r < t * r = omega (arith, div-add-mod' m r) in
          omega (arith, div-add-mod' m r, row_step (m / r) t r (lt_of_mul-lt-mul_right r w))

      later : m < t * r + i → Rest → (d : ℕ) → m + d ≡ (t + a) * r + i → at (strand r i (suc m) xs) a ≡ at (x ∷ xs) d
      later l rest zero e = absurd (omega arith)
      later l rest (suc d) e = rest t a d (omega arith) (omega arith) (omega arith)

      go : Dec (m < t * r + i) → Rest → at (strand r i m (x ∷ xs)) a ≡ at (x ∷ xs) d
      go (yes l) rest = ap (λ ys. at ys a) (strand_other r i m x xs (apart l)) ∙ later l rest d e
      go (no l) rest =
          let o : m ≡ t * r + i = omega arith in
          let u : m % r ≡ i = ap (λ n. n % r) o ∙ digits_mod t h in
          ap (λ ys. at ys a) (ap (λ n. strand r n m (x ∷ xs)) (sym u) ∙ strand_own r m x xs ∙ ap (λ n. x ∷ strand r n (suc m) xs) u) ∙ own o rest a d e

  pub strand_at : (xs : List ℕ) (a : ℕ) → at (strand r i 0 xs) a ≡ at xs (a * r + i)
  strand_at xs a = strand_from xs 0 0 a (a * r + i) (omega arith) (omega arith) (omega arith)
