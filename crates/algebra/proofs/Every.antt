-- A test of every number below a bound. Assumes nothing.
--   every_at, every_intro                 it says that each passes
--   every_not                             one that does not
--   every_none, every_more, every_done    no number, one number more, to the bound
--   every_same                            two tests that agree
use mathlib.Core.Path.{◌≡◌, refl, sym, ap₂}
use mathlib.Core.Bool.{Bool, true, false, ◌&&◌}
use Prim.Native.Nat.{ℕ, zero, suc, ◌+◌, ◌≤◌, ◌<◌}
use native.Mathlib.Nat.{le_refl, not-suc-le-zero}
use native.Mathlib.Decide.{ℕ_discrete}
use native.Mathlib.Numerals.{add-one}
use native.Mathlib.Omega.{arith}
use lib.Dec.{T}
use Rattle.algebra.specs.Sequence.{every}
use Rattle.algebra.proofs.Booleans.{no_false, and_left, and_right, and_both}

module _ (t : ℕ → Bool) where
  pub every_at : (n : ℕ) → T (every t n) → (i : ℕ) → i < n → T (t i)
  unfolding every
  every_at zero e i h = absurd (not-suc-le-zero h)
  every_at (suc n) e i h = go (ℕ_discrete i n) (every_at n (and_right (t n) (every t n) e) i)
    where
      go : Dec (i ≡ n) → (i < n → T (t i)) → T (t i)
      go (yes p) rest = rw p (and_left (t n) (every t n) e)
      go (no p) rest = rest (omega arith)

  pub every_intro : (n : ℕ) → ((i : ℕ) → i < n → T (t i)) → T (every t n)
  unfolding every
  every_intro zero h = tt
  every_intro (suc n) h = and_both (t n) (every t n) (h n (le_refl (suc n))) (every_intro n (λ i b. h i (omega arith)))

  pub every_not : (n i : ℕ) → i < n → t i ≡ false → every t n ≡ false
  every_not n i h e = no_false (every t n) (λ a. rw e at (every_at n a i h))

  pub every_none : every t 0 ≡ true
  unfolding every
  every_none = refl

  pub every_more : (i : ℕ) → every t i ≡ true → t i ≡ true → every t (i + 1) ≡ true
  unfolding every
  every_more i e h = rw (add-one, h) e

  pub every_done : (n i : ℕ) → i ≤ n → n ≤ i → every t i ≡ true → true ≡ every t n
  every_done n i h g e = let s : i ≡ n = omega arith in sym (rw s at e)

pub every_same : (s t : ℕ → Bool) (n : ℕ) → ((i : ℕ) → i < n → s i ≡ t i) → every s n ≡ every t n
unfolding every
every_same s t zero h = refl
every_same s t (suc n) h = ap₂ (λ a b. a && b) (h n (le_refl (suc n))) (every_same s t n (λ i b. h i (omega arith)))
