-- Polynomials whose coefficients a function gives. Assumes nothing.
--   front c l             the coefficients c 0 to c (l - 1), as a list
--   front_value c l x     == the value of this polynomial at x
--   value_same, value_zeros, value_short    what it depends on
--   value_add_scaled      the value of p + k q
--   value_linear          the value of X p + k p
--   front_injective       equal polynomials have equal coefficients
--   unique_counted        two polynomials of l coefficients that agree at l places, counted
use mathlib.Core.Path.{◌≡◌, refl, sym, ap, ap₂, ◌∙◌}
use mathlib.Core.Bool.{Bool}
use mathlib.Core.List.{List, [], ◌∷◌}
use Prim.Native.Nat.{ℕ, zero, suc, ◌≤◌, ◌<◌, zero-le, suc-le-suc}
use native.Mathlib.Nat.{not-suc-le-zero, le_of_suc-le-suc}
use native.Mathlib.Omega.{arith}
use lib.Dec.{T}
use lib.ListN.{length, get_or, drop}
use Rattle.algebra.specs.Ring.{Ring, Field}
use Rattle.algebra.specs.Sequence.{count}
use Rattle.algebra.specs.Polynomial.{eval}
use Rattle.algebra.proofs.Ring.{add_left_comm, mul_left_comm, mul_nil}
use Rattle.algebra.proofs.Picked.{picked, length_picked, picked_each, picked_distinct}
use Rattle.algebra.proofs.Polynomial.{unique_coefs}

module _ (R : Ring) where
  open R use {El, nil as 𝟘, add as ◌⊕◌, mul as ◌⊗◌, add_assoc, add_nil, mul_add}

  infixl 60 ◌⊕◌
  infixl 70 ◌⊗◌
  unfoldable pub front : (ℕ → El) → ℕ → List El
  front c zero = []
  front c (suc l) = c 0 ∷ front (λ m. c (suc m)) l

  abbrev pub front_value : (ℕ → El) → ℕ → El → El
  front_value c l x = eval R (front c l) x

  pub length_front : (c : ℕ → El) (l : ℕ) → length (front c l) ≡ l
  unfolding front
  length_front c zero = refl
  length_front c (suc l) = ap suc (length_front (λ m. c (suc m)) l)

  pub front_injective : (c d : ℕ → El) (l : ℕ) → front c l ≡ front d l → (m : ℕ) → m < l → c m ≡ d m
  unfolding front
  front_injective c d zero e m h = absurd (not-suc-le-zero h)
  front_injective c d (suc l) e zero h = ap (λ (xs : List El). get_or xs 0 𝟘) e
  front_injective c d (suc l) e (suc m) h =
      front_injective (λ m. c (suc m)) (λ m. d (suc m)) l (ap (λ (xs : List El). drop 1 xs) e) m (le_of_suc-le-suc h)

  pub value_same : (c d : ℕ → El) (l : ℕ) (x : El) → ((m : ℕ) → m < l → c m ≡ d m) → front_value c l x ≡ front_value d l x
  unfolding front eval
  value_same c d zero x h = refl
  value_same c d (suc l) x h =
      ap₂ (λ a b. a ⊕ x ⊗ b) (h 0 (omega arith)) (value_same (λ m. c (suc m)) (λ m. d (suc m)) l x (λ m b. h (suc m) (suc-le-suc b)))

  pub value_zeros : (c : ℕ → El) (l : ℕ) (x : El) → ((m : ℕ) → m < l → c m ≡ 𝟘) → front_value c l x ≡ 𝟘
  unfolding front eval
  value_zeros c zero x h = refl
  value_zeros c (suc l) x h =
      ap₂ (λ a b. a ⊕ x ⊗ b) (h 0 (omega arith)) (value_zeros (λ m. c (suc m)) l x (λ m b. h (suc m) (suc-le-suc b)))
      ∙ ap (λ n. 𝟘 ⊕ n) (mul_nil R x) ∙ add_nil 𝟘

  -- coefficients that are 0
  pub value_short : (c : ℕ → El) (k l : ℕ) (x : El) → k ≤ l → ((m : ℕ) → k ≤ m → m < l → c m ≡ 𝟘) → front_value c l x ≡ front_value c k x
  unfolding front eval
  value_short c zero l x b h = value_zeros c l x (λ m a. h m zero-le a)
  value_short c (suc k) zero x b h = absurd (not-suc-le-zero b)
  value_short c (suc k) (suc l) x b h =
      ap (λ n. c 0 ⊕ x ⊗ n) (value_short (λ m. c (suc m)) k l x (le_of_suc-le-suc b) (λ m a d. h (suc m) (suc-le-suc a) (suc-le-suc d)))

  gather : (a k b x p s : El) → (a ⊕ k ⊗ b) ⊕ x ⊗ (p ⊕ k ⊗ s) ≡ (a ⊕ x ⊗ p) ⊕ k ⊗ (b ⊕ x ⊗ s)
  gather a k b x p s = simp (mul_add, add_assoc, add_left_comm R, mul_left_comm R)

  pub value_add_scaled : (z c d : ℕ → El) (k : El) (l : ℕ) (x : El) → ((m : ℕ) → m < l → z m ≡ c m ⊕ k ⊗ d m)
      → front_value z l x ≡ front_value c l x ⊕ k ⊗ front_value d l x
  unfolding front eval
  value_add_scaled z c d k zero x h = sym (ap (λ n. 𝟘 ⊕ n) (mul_nil R k) ∙ add_nil 𝟘)
  value_add_scaled z c d k (suc l) x h =
      ap₂ (λ a b. a ⊕ x ⊗ b) (h 0 (omega arith))
      (value_add_scaled (λ m. z (suc m)) (λ m. c (suc m)) (λ m. d (suc m)) k l x (λ m b. h (suc m) (suc-le-suc b)))
      ∙ gather (c 0) k (d 0) x (front_value (λ m. c (suc m)) l x) (front_value (λ m. d (suc m)) l x)

  spread : (k c x p s : El) → k ⊗ c ⊕ x ⊗ (p ⊕ k ⊗ s) ≡ x ⊗ p ⊕ k ⊗ (c ⊕ x ⊗ s)
  spread k c x p s = simp (mul_add, add_left_comm R, mul_left_comm R)

  pub value_linear : (z c : ℕ → El) (k : El) (l : ℕ) (x : El) → z 0 ≡ k ⊗ c 0 → ((m : ℕ) → m < l → z (suc m) ≡ c m ⊕ k ⊗ c (suc m))
      → front_value z (suc l) x ≡ x ⊗ front_value c l x ⊕ k ⊗ front_value c (suc l) x
  unfolding front eval
  value_linear z c k l x e h =
      ap₂ (λ a b. a ⊕ x ⊗ b) e (value_add_scaled (λ m. z (suc m)) c (λ m. c (suc m)) k l x h)
      ∙ spread k (c 0) x (front_value c l x) (front_value (λ m. c (suc m)) l x)

module _ (F : Field) where
  open F use {ring}
  open F.ring use {El}

  -- pt gives the points of places 0 to n - 1, all different; t marks places, at each of which the two agree
  pub unique_counted : (pt : ℕ → El) (t : ℕ → Bool) (n : ℕ) (c d : ℕ → El) (l : ℕ) → ((i j : ℕ) → i < n → j < n → pt i ≡ pt j → i ≡ j)
      → ((i : ℕ) → i < n → T (t i) → front_value ring c l (pt i) ≡ front_value ring d l (pt i)) → l ≤ count t n → (m : ℕ) → m < l → c m ≡ d m
  unique_counted pt t n c d l differ agree h =
      front_injective ring c d l
      (unique_coefs F (picked pt t n) (front ring c l) (front ring d l) (picked_distinct pt t n differ)
      (length_front ring c l ∙ sym (length_front ring d l)) (omega (arith, length_front ring c l, length_picked pt t n))
      (picked_each pt t (λ x. front_value ring c l x ≡ front_value ring d l x) n agree))
