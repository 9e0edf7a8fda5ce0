-- Places and their marks: a mark 1 says that the place is lost. Assumes nothing.
--   masked_lost, masked_kept, masked_below    a symbol by its mark
--   kept_no, kept_yes, kept_enough            the test that a place is not lost, and how many pass it
--   kept_not_lost, kept_before                what passes is not lost; a kept place up to a lost one is before it
--   agreed                                    places that agree
use mathlib.Core.Path.{◌≡◌, refl, sym, ap, ◌∙◌}
use mathlib.Core.Logic.{◌≢◌}
use mathlib.Core.Bool.{Bool, true, false, cond, not, ◌||◌}
use mathlib.Core.List.{List}
use Prim.Native.Nat.{ℕ, ◌+◌, ◌≤◌, ◌<◌}
use native.Mathlib.Decide.{ℕ_discrete}
use native.Mathlib.Omega.{arith}
use lib.Dec.{T, eqb}
use Rattle.std.specs.Prelude.{IsTrue, ◌↔◌}
use Rattle.algebra.specs.Sequence.{at, count}
use Rattle.algebra.proofs.Equality.{Same, same, other, same?}
use Rattle.algebra.proofs.Counting.{count_split}
use Rattle.interpolation.specs.Interpolated.{masked}
use Rattle.interpolation.specs.Step.{kept, Agreed}

-- a symbol by its mark
pub masked_lost : (w mark : ℕ) → mark ≡ 1 → masked w mark ≡ 0
unfolding masked
masked_lost w mark e = go (eqb mark 1) (same? mark 1)
  where
    go : (b : Bool) → Same mark 1 b → cond b 0 w ≡ 0
    go true s = refl
    go false (other n) = absurd (n e)

pub masked_kept : (w mark : ℕ) → mark ≢ 1 → masked w mark ≡ w
unfolding masked
masked_kept w mark h = go (eqb mark 1) (same? mark 1)
  where
    go : (b : Bool) → Same mark 1 b → cond b 0 w ≡ w
    go true (same e) = absurd (h e)
    go false s = refl

pub masked_below : (q w mark : ℕ) → 0 < q → (mark ≢ 1 → w < q) → masked w mark < q
unfolding masked
masked_below q w mark z h = go (eqb mark 1) (same? mark 1)
  where
    go : (b : Bool) → Same mark 1 b → cond b 0 w < q
    go true s = z
    go false (other n) = h n

-- the test of a place
pub kept_no : (ms : List ℕ) (p : ℕ) → at ms p ≡ 1 → kept ms p ≡ false
kept_no ms p e = go (eqb (at ms p) 1) (same? (at ms p) 1)
  where
    go : (b : Bool) → Same (at ms p) 1 b → not b ≡ false
    go true s = refl
    go false (other n) = absurd (n e)

pub kept_yes : (ms : List ℕ) (p : ℕ) → at ms p ≢ 1 → kept ms p ≡ true
kept_yes ms p h = go (eqb (at ms p) 1) (same? (at ms p) 1)
  where
    go : (b : Bool) → Same (at ms p) 1 b → not b ≡ true
    go true (same e) = absurd (h e)
    go false s = refl

pub kept_enough : (ms : List ℕ) (n most : ℕ) → most + count (λ p. eqb (at ms p) 1) n ≤ n → most ≤ count (kept ms) n
kept_enough ms n most h = omega (arith, count_split (λ p. eqb (at ms p) 1) (kept ms) n (λ i b. go (eqb (at ms i) 1)))
  where
    go : (b : Bool) → T (b || not b)
    go true = tt
    go false = tt

pub kept_not_lost : (ms : List ℕ) (p : ℕ) → T (kept ms p) → at ms p ≢ 1
kept_not_lost ms p k e = go (eqb (at ms p) 1) (same? (at ms p) 1) k
  where
    go : (b : Bool) → Same (at ms p) 1 b → T (not b) → ⊥
    go true s k = k
    go false (other h) k = h e

pub kept_before : (ms : List ℕ) (i p : ℕ) → at ms i ≡ 1 → p < i + 1 → at ms p ≢ 1 → p < i
kept_before ms i p lost h k = go (ℕ_discrete p i)
  where
    go : Dec (p ≡ i) → p < i
    go (yes e) = absurd (k (ap (at ms) e ∙ lost))
    go (no e) = omega arith

-- places that agree
pub agreed : (n from : ℕ) (ms rs : List ℕ) (r : Bool) → IsTrue r ↔ ((p : ℕ) → from ≤ p → p < n → masked (at rs p) (at ms p) ≡ 0) → Agreed n ms from rs r
agreed n from ms rs r h = record {
  none = λ e p b l k. sym (masked_kept (at rs p) (at ms p) k) ∙ h.0 e p b l;
  agree = λ A. h.1 (λ p b l. go p b l (ℕ_discrete (at ms p) 1) A);
}
  where
    go : (p : ℕ) → from ≤ p → p < n → Dec (at ms p ≡ 1) → ((i : ℕ) → from ≤ i → i < n → at ms i ≢ 1 → at rs i ≡ 0) → masked (at rs p) (at ms p) ≡ 0
    go p b l (yes z) A = masked_lost (at rs p) (at ms p) z
    go p b l (no z) A = masked_kept (at rs p) (at ms p) z ∙ A p b l z
