-- Quotients of powers of the generator. Assumes nothing.
--   power_quotient    one power by another is the power of the exponents' difference, taken round q - 1
use mathlib.Core.Path.{◌≡◌, sym, ap, ap₂, ◌∙◌}
use mathlib.Core.Logic.{◌≢◌, ◌⊎◌, inl, inr}
use Prim.Native.Nat.{ℕ, ◌+◌, ◌-◌}
use native.Mathlib.Nat.{suc-ne-zero}
use Rattle.algebra.specs.Ring.{pow}
use Rattle.algebra.proofs.Ring.{pow_add, pow_nonzero}
use Rattle.field.specs.Field.{q, γ, times, power, inverse}
use Rattle.field.proofs.Elem.{Elem, ring_of, field_of, gen, gen_whole, inv, mul_inv, pow_is}

module _ (f : ℕ) where
  open ring_of f use {nil as 𝟘, unit as 𝟙, mul as ◌⊗◌, mul_assoc, mul_unit}

  infixl 70 ◌⊗◌
  -- a power of the generator, as an element
  abbrev turned : ℕ → Elem f
  turned e = pow (ring_of f) (gen f) e

  turned_nonzero : (e : ℕ) → turned e ≢ 𝟘
  unfolding gen γ
  turned_nonzero e =
      pow_nonzero (field_of f) (gen f) (λ z. suc-ne-zero _ (ap (λ x. x.0) z)) (λ z. suc-ne-zero _ (ap (λ x. x.0) z)) e

  turned_is : (e : ℕ) → (turned e).0 ≡ power f γ e
  unfolding gen
  turned_is e = pow_is f (gen f) e

  product : (a b c : ℕ) → (c + b ≡ a) ⊎ (c + b ≡ a + (q f - 1)) → turned c ⊗ turned b ≡ turned a
  product a b c (inl e) = sym (pow_add (ring_of f) (gen f) c b) ∙ ap turned e
  product a b c (inr e) =
      sym (pow_add (ring_of f) (gen f) c b) ∙ ap turned e ∙ pow_add (ring_of f) (gen f) a (q f - 1)
      ∙ ap (λ y. turned a ⊗ y) (gen_whole f) ∙ mul_unit (turned a)

  quotient : (a b c : ℕ) → (c + b ≡ a) ⊎ (c + b ≡ a + (q f - 1)) → turned a ⊗ inv f (turned b) ≡ turned c
  quotient a b c e =
      ap (λ y. y ⊗ inv f (turned b)) (sym (product a b c e)) ∙ mul_assoc (turned c) (turned b) (inv f (turned b))
      ∙ ap (λ y. turned c ⊗ y) (mul_inv f (turned b) (turned_nonzero b)) ∙ mul_unit (turned c)

  pub power_quotient : (a b c : ℕ) → (c + b ≡ a) ⊎ (c + b ≡ a + (q f - 1)) → times f (power f γ a) (inverse f (power f γ b)) ≡ power f γ c
  unfolding inv
  power_quotient a b c e =
      sym (ap₂ (λ y x. times f y (inverse f x)) (turned_is a) (turned_is b)) ∙ ap (λ x. x.0) (quotient a b c e) ∙ turned_is c
