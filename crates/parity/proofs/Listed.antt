-- Coefficients as a list and as a function. Assumes nothing.
--   listed cs m        == coefficient m of cs, 0 behind them; past_listed, value_listed
--   at_front           the first of them as a list
--   value_last         one coefficient more
--   poly_raise         a polynomial times X to the power l
use mathlib.Core.Path.{◌≡◌, refl, sym, ap, ◌∙◌}
use mathlib.Core.List.{List, [], ◌∷◌}
use Prim.Native.Nat.{ℕ, zero, suc, ◌+◌, ◌≤◌, ◌<◌}
use native.Mathlib.Nat.{not-suc-le-zero, le_of_suc-le-suc, add-zero, add-suc}
use lib.ListN.{length, get_or}
use Rattle.algebra.specs.Ring.{Ring, pow}
use Rattle.algebra.specs.Polynomial.{eval, Poly}
use Rattle.algebra.proofs.Ring.{nil_add, mul_nil, unit_mul, mul_left_comm}
use Rattle.algebra.proofs.Polynomial.{poly_same, poly_shift}
use Rattle.algebra.proofs.Coefficients.{front, front_value, value_zeros}

module _ (R : Ring) where
  open R use {El, nil as 𝟘, unit as 𝟙, add as ◌⊕◌, mul as ◌⊗◌, add_assoc, add_nil, mul_assoc, mul_unit, mul_add}

  infixl 60 ◌⊕◌
  infixl 70 ◌⊗◌
  abbrev pub listed : List El → ℕ → El
  listed cs m = get_or cs m 𝟘

  pub past_listed : (cs : List El) (m : ℕ) → length cs ≤ m → listed cs m ≡ 𝟘
  past_listed [] m h = refl
  past_listed (c ∷ cs) zero h = absurd (not-suc-le-zero h)
  past_listed (c ∷ cs) (suc m) h = past_listed cs m (le_of_suc-le-suc h)

  pub value_listed : (cs : List El) (l : ℕ) (x : El) → length cs ≤ l → front_value R (listed cs) l x ≡ eval R cs x
  unfolding front eval
  value_listed [] l x h = value_zeros R (listed []) l x (λ m b. refl)
  value_listed (c ∷ cs) zero x h = absurd (not-suc-le-zero h)
  value_listed (c ∷ cs) (suc l) x h = ap (λ y. c ⊕ x ⊗ y) (value_listed cs l x (le_of_suc-le-suc h))

  pub at_front : (c : ℕ → El) (l m : ℕ) → m < l → get_or (front R c l) m 𝟘 ≡ c m
  unfolding front
  at_front c zero m h = absurd (not-suc-le-zero h)
  at_front c (suc l) zero h = refl
  at_front c (suc l) (suc m) h = at_front (λ m. c (suc m)) l m (le_of_suc-le-suc h)

  pub value_last : (c : ℕ → El) (l : ℕ) (x : El) → front_value R c (suc l) x ≡ front_value R c l x ⊕ c l ⊗ pow R x l
  unfolding front eval pow
  value_last c zero x = ap (λ y. c 0 ⊕ y) (mul_nil R x) ∙ add_nil (c 0) ∙ sym (nil_add R (c 0 ⊗ 𝟙) ∙ mul_unit (c 0))
  value_last c (suc l) x =
      let v = front_value R (λ m. c (suc m)) l x in
      ap (λ y. c 0 ⊕ x ⊗ y) (value_last (λ m. c (suc m)) l x)
      ∙ ap (λ y. c 0 ⊕ y) (mul_add x v (c (suc l) ⊗ pow R x l) ∙ ap (λ y. x ⊗ v ⊕ y) (mul_left_comm R x (c (suc l)) (pow R x l)))
      ∙ sym (add_assoc (c 0) (x ⊗ v) (c (suc l) ⊗ (x ⊗ pow R x l)))

  pub poly_raise : (n l : ℕ) {g : El → El} → Poly R n g → Poly R (n + l) (λ x. pow R x l ⊗ g x)
  unfolding pow
  poly_raise n zero {g} p = rw (add-zero n) (poly_same R n (λ x. unit_mul R (g x)) p)
  poly_raise n (suc l) {g} p =
      rw (add-suc n l) (poly_same R (suc (n + l)) (λ x. mul_assoc x (pow R x l) (g x)) (poly_shift R (n + l) (poly_raise n l p)))
