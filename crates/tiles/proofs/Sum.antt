-- Sums over bytes. Assumes nothing.
--   sum_below, sum_same, sum_zero
--   sum_base                    what is added to is a term
--   sum_front                   the first term apart
--   sum_add, sum_doubled        sums of sums, and of doubles
use mathlib.Core.Path.{◌≡◌, refl, sym, ap, ap₂, ◌∙◌}
use Prim.Native.Nat.{ℕ, zero, suc, ◌<◌}
use native.Mathlib.Nat.{le_refl}
use native.Mathlib.Omega.{arith}
use lib.Dec.{lit<}
use Rattle.field.specs.Field.{xor_from, doubled}
use Rattle.field.proofs.Xor.{xor_comm, xor_assoc}
use Rattle.field.proofs.Byte.{◌⊕◌, ⊕_below, ⊕_zero, interchange, double_adds}
use Rattle.tiles.specs.Step.{sum}

pub sum_more : (a : ℕ) (f : ℕ → ℕ) (n : ℕ) → sum a f (suc n) ≡ sum a f n ⊕ f n
unfolding sum
sum_more a f n = refl

pub sum_none : (a : ℕ) (f : ℕ → ℕ) → sum a f 0 ≡ a
unfolding sum
sum_none a f = refl

pub sum_below : (f : ℕ → ℕ) (n : ℕ) → sum 0 f n < 256
unfolding sum
sum_below f zero = lit< tt
sum_below f (suc n) = ⊕_below (sum 0 f n) (f n)

pub sum_same : (a : ℕ) (f g : ℕ → ℕ) (n : ℕ) → ((i : ℕ) → i < n → f i ≡ g i) → sum a f n ≡ sum a g n
unfolding sum
sum_same a f g zero h = refl
sum_same a f g (suc n) h = ap₂ ◌⊕◌ (sum_same a f g n (λ i b. h i (omega arith))) (h n (le_refl (suc n)))

pub sum_base : (a : ℕ) (f : ℕ → ℕ) (n : ℕ) → a < 256 → sum a f n ≡ a ⊕ sum 0 f n
unfolding sum
sum_base a f zero h = sym (⊕_zero h)
sum_base a f (suc n) h = ap (λ x. x ⊕ f n) (sum_base a f n h) ∙ xor_assoc 8 a (sum 0 f n) (f n)

pub sum_front : (f : ℕ → ℕ) (n : ℕ) → sum 0 f (suc n) ≡ f 0 ⊕ sum 0 (λ i. f (suc i)) n
unfolding sum
sum_front f zero = xor_comm 8 0 (f 0)
sum_front f (suc n) = ap (λ x. x ⊕ f (suc n)) (sum_front f n) ∙ xor_assoc 8 (f 0) (sum 0 (λ i. f (suc i)) n) (f (suc n))

pub sum_zero : (n : ℕ) → sum 0 (λ i. 0) n ≡ 0
unfolding sum
sum_zero zero = refl
sum_zero (suc n) = ap (λ x. x ⊕ 0) (sum_zero n) ∙ (unfold xor_from in refl)

pub sum_add : (f g : ℕ → ℕ) (n : ℕ) → sum 0 f n ⊕ sum 0 g n ≡ sum 0 (λ i. f i ⊕ g i) n
unfolding sum
sum_add f g zero = unfold xor_from in refl
sum_add f g (suc n) = interchange (sum 0 f n) (f n) (sum 0 g n) (g n) ∙ ap (λ x. x ⊕ (f n ⊕ g n)) (sum_add f g n)

pub sum_doubled : (f : ℕ → ℕ) (n : ℕ) → ((i : ℕ) → i < n → f i < 256) → doubled (sum 0 f n) ≡ sum 0 (λ i. doubled (f i)) n
unfolding sum
sum_doubled f zero h = unfold doubled in refl
sum_doubled f (suc n) h =
    double_adds (sum 0 f n) (f n) (sum_below f n) (h n (le_refl (suc n)))
    ∙ ap (λ x. x ⊕ doubled (f n)) (sum_doubled f n (λ i b. h i (omega arith)))
