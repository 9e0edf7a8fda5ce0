-- The checks over numbers are checks over the field. Assumes nothing.
--   factor s b y    == the factor of every term at y, for whole groups (b) or a short last one
--   terms_at s l y  == term l at y
--   term_is         so is the number
--   check_sum       a check of the values of a function at the places ms
use mathlib.Core.Path.{◌≡◌, refl, sym, ap, ap₂, ◌∙◌}
use mathlib.Core.Bool.{Bool, true, false, cond}
use mathlib.Core.List.{List, [], ◌∷◌, map}
use Prim.Native.Nat.{ℕ}
use Rattle.algebra.specs.Ring.{Ring, Field, pow}
use Rattle.algebra.proofs.Blocks.{vanish}
use Rattle.field.specs.Field.{plus, minus, times, inverse}
use Rattle.field.specs.Polynomial.{dotted}
use Rattle.field.proofs.Elem.{Elem, ring_of, field_of, pow_is, inv}
use Rattle.code.specs.declared.Shape.{Shape}
use Rattle.code.specs.Shape.{missing, whole, point, others}
use Rattle.code.specs.Basis.{vanishing}
use Rattle.code.proofs.Points.{locator, locator_is}
use Rattle.code.proofs.ShortBasis.{behind, vanish_is}
use Rattle.code.proofs.Weights.{weigh_is}
use Rattle.parity.specs.Parity.{scale, term, check_weight}
use Rattle.parity.proofs.Defect.{checked}

module _ (s : Shape) where
  abbrev f : ℕ
  f = s.field

  abbrev R : Ring
  R = ring_of s.field

  abbrev F : Field
  F = field_of s.field

  unfoldable pub factor : Bool → Elem s.field → Elem s.field
  factor true y = y
  factor false y = inv f (vanish R (behind s) y)

  abbrev pub terms_at : ℕ → Elem s.field → Elem s.field
  terms_at l y = (ring_of s.field).mul (factor (whole s) y) (pow (ring_of s.field) y l)

  factor_is : (b : Bool) (y : Elem f) → cond b y.0 (inverse f (vanishing s y.0)) ≡ (factor b y).0
  unfolding factor inv vanishing
  factor_is true y = refl
  factor_is false y = ap (inverse f) (sym (vanish_is s y (missing s) s.n))

  pub term_is : (l : ℕ) (y : Elem s.field) → term s l y.0 ≡ (terms_at l y).0
  unfolding term scale
  term_is l y = ap₂ (times f) (factor_is (whole s) y) (sym (pow_is f y l))

  term_at : (l p : ℕ) → term s l (point s p) ≡ (terms_at l (locator s p)).0
  term_at l p = ap (term s l) (sym (locator_is s p)) ∙ term_is l (locator s p)

  pub check_sum : (p l : ℕ) (v : ℕ → Elem s.field) (ms : List ℕ)
      → dotted s.field (map (check_weight s p l) ms) (map (λ m. (v m).0) ms)
      ≡ (checked (field_of s.field) (locator s) (others s p) (locator s p) (terms_at l) v ms).0
  unfolding dotted checked check_weight
  check_sum p l v [] = refl
  check_sum p l v (m ∷ ms) =
      ap₂ (plus f)
      (ap (λ w. times f w (v m).0)
      (ap₂ (times f) (sym (weigh_is s p m (others s p))) (ap₂ (minus f) (term_at l m) (term_at l p))))
      (check_sum p l v ms)
