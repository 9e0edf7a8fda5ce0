-- One step of Newton's interpolation, in values at one point. Assumes nothing.
--   factor_value    X n + (0 - y) n is (X - y) n
--   rest_kept       what is taken from the rest is added to the value
--   quotient        r / v times v is r
--   factor_not_nil  a product of two that are not 0
use mathlib.Core.Path.{◌≡◌, sym, ap, ◌∙◌}
use mathlib.Core.Logic.{◌≢◌}
use Rattle.algebra.specs.Ring.{Ring, Field}
use Rattle.algebra.proofs.Ring.{nil_mul, sub_mul, add_interchange, eq_of_sub, no_divisors}

module _ (R : Ring) where
  open R use {El, nil as 𝟘, add as ◌⊕◌, sub as ◌⊖◌, mul as ◌⊗◌, add_comm, add_assoc, add_nil}

  infixl 60 ◌⊕◌
  infixl 60 ◌⊖◌
  infixl 70 ◌⊗◌
  cancelled : (k v : El) → (𝟘 ⊖ k) ⊗ v ⊕ k ⊗ v ≡ 𝟘
  cancelled k v = sub_mul R 𝟘 k v ∙ nil_mul R v

  pub factor_value : (x y v : El) → x ⊗ v ⊕ (𝟘 ⊖ y) ⊗ v ≡ (x ⊖ y) ⊗ v
  factor_value x y v =
      ap (λ n. n ⊕ (𝟘 ⊖ y) ⊗ v) (sym (sub_mul R x y v)) ∙ add_assoc ((x ⊖ y) ⊗ v) (y ⊗ v) ((𝟘 ⊖ y) ⊗ v)
      ∙ ap (λ n. (x ⊖ y) ⊗ v ⊕ n) (add_comm (y ⊗ v) ((𝟘 ⊖ y) ⊗ v) ∙ cancelled y v) ∙ add_nil ((x ⊖ y) ⊗ v)

  pub rest_kept : (r k v p : El) → (r ⊕ (𝟘 ⊖ k) ⊗ v) ⊕ (p ⊕ k ⊗ v) ≡ r ⊕ p
  rest_kept r k v p = add_interchange R r ((𝟘 ⊖ k) ⊗ v) p (k ⊗ v) ∙ ap (λ n. r ⊕ p ⊕ n) (cancelled k v) ∙ add_nil (r ⊕ p)

module _ (F : Field) where
  open F use {ring, inv, mul_inv}
  open F.ring use {El, nil as 𝟘, sub as ◌⊖◌, mul as ◌⊗◌, mul_comm, mul_assoc, mul_unit}

  infixl 60 ◌⊖◌
  infixl 70 ◌⊗◌
  pub quotient : (r v : El) → v ≢ 𝟘 → r ⊗ inv v ⊗ v ≡ r
  quotient r v h = mul_assoc r (inv v) v ∙ ap (λ n. r ⊗ n) (mul_comm (inv v) v ∙ mul_inv v h) ∙ mul_unit r

  pub factor_not_nil : (x y v : El) → x ≢ y → v ≢ 𝟘 → (x ⊖ y) ⊗ v ≢ 𝟘
  factor_not_nil x y v h g e = g (no_divisors F (x ⊖ y) v (λ z. h (eq_of_sub ring x y z)) e)
