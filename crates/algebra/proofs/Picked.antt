-- The points of the places that pass a test. Assumes nothing.
--   picked pt t n      == the points pt i of the places i below n that pass t, the last place first
--   length_picked      as many as pass
--   picked_each, picked_distinct
use mathlib.Core.Path.{◌≡◌, refl}
use mathlib.Core.Logic.{◌≢◌}
use mathlib.Core.Bool.{Bool, true, false, cond}
use mathlib.Core.List.{List, [], ◌∷◌}
use Prim.Native.Nat.{ℕ, zero, suc, ◌+◌, ◌<◌}
use native.Mathlib.Nat.{le_refl}
use native.Mathlib.Omega.{arith}
use lib.ListN.{length}
use lib.Dec.{T}
use Rattle.algebra.specs.Sequence.{count, Each, Distinct}

module _ {A : Type 0} (pt : ℕ → A) (t : ℕ → Bool) where
  unfoldable pub picked : ℕ → List A
  picked zero = []
  picked (suc n) = let r = picked n in cond (t n) (pt n ∷ r) r

  pub length_picked : (n : ℕ) → length (picked n) ≡ count t n
  unfolding picked count
  length_picked zero = refl
  length_picked (suc n) = go (t n) (picked n) (length_picked n)
    where
      go : (b : Bool) (xs : List A) → length xs ≡ count t n → length (cond b (pt n ∷ xs) xs) ≡ cond b 1 0 + count t n
      go true xs e = omega arith
      go false xs e = omega arith

  pub picked_each : (P : A → Type 0) (n : ℕ) → ((i : ℕ) → i < n → T (t i) → P (pt i)) → Each P (picked n)
  unfolding picked
  picked_each P zero h = tt
  picked_each P (suc n) h = go (t n) refl (picked n) (picked_each P n (λ i b. h i (omega arith)))
    where
      go : (b : Bool) → t n ≡ b → (xs : List A) → Each P xs → Each P (cond b (pt n ∷ xs) xs)
      go true e xs r = (h n (le_refl (suc n)) (rw e tt), r)
      go false e xs r = r

  pub picked_distinct : (n : ℕ) → ((i j : ℕ) → i < n → j < n → pt i ≡ pt j → i ≡ j) → Distinct (picked n)
  unfolding picked
  picked_distinct zero differ = tt
  picked_distinct (suc n) differ =
      go (t n) (picked n) (picked_each (λ y. y ≢ pt n) n away) (picked_distinct n (λ i j a b. differ i j (omega arith) (omega arith)))
    where
      away : (i : ℕ) → i < n → T (t i) → pt i ≢ pt n
      away i b m e = let z : i ≡ n = differ i n (omega arith) (omega arith) e in absurd (omega arith)

      go : (b : Bool) (xs : List A) → Each (λ y. y ≢ pt n) xs → Distinct xs → Distinct (cond b (pt n ∷ xs) xs)
      go true xs e r = (e, r)
      go false xs e r = r
