-- Checks of a polynomial's values at a slot's mates, where its group is whole. Assumes nothing.
--   others_number, others_differ, others_apart    the other places of the group: r of them, and their points
--   mates_all       where there are r, they are the mates
--   check s p l g   == check l of the function g
--   check_is        the sum over the mates' symbols is the check of a polynomial of r coefficients that has them
--   whole_check     whole groups: term l is X to the power l + 1
--   short_check     a short last group, a slot of another: of a sum with a multiple of h, the other summand counts
use mathlib.Core.Path.{◌≡◌, refl, sym, ap, ap₂, ◌∙◌}
use mathlib.Core.Logic.{◌≢◌}
use mathlib.Core.Bool.{Bool, true, false}
use mathlib.Core.List.{List, [], ◌∷◌, map}
use Prim.Native.Nat.{ℕ, ◌+◌, ◌-◌, ◌≤◌, ◌<◌}
use native.Mathlib.Omega.{arith}
use lib.ListN.{length}
use lib.Seq.{take_all}
use Rattle.algebra.specs.Ring.{Ring, Field, pow}
use Rattle.algebra.specs.Sequence.{In, Distinct}
use Rattle.algebra.specs.Polynomial.{Poly}
use Rattle.algebra.proofs.Ring.{unit_mul, sub_nil}
use Rattle.algebra.proofs.Polynomial.{poly_more}
use Rattle.algebra.proofs.Blocks.{vanish}
use Rattle.field.specs.Polynomial.{dotted}
use Rattle.field.proofs.Elem.{Elem, ring_of, field_of, inv}
use Rattle.code.specs.declared.Shape.{Shape}
use Rattle.code.specs.Shape.{size, groups, room, whole, group, members, others, mates}
use Rattle.code.specs.Laws.{Placed, Mending}
use Rattle.code.proofs.Places.{n_room}
use Rattle.code.proofs.Points.{locator, locators_differ}
use Rattle.code.proofs.Others.{length_others, others_distinct, other_is}
use Rattle.code.proofs.Mates.{length_mates}
use Rattle.code.proofs.Weights.{places_differ}
use Rattle.code.proofs.ShortBasis.{behind}
use Rattle.parity.specs.Parity.{check_weight, check_weights}
use Rattle.parity.proofs.Listed.{poly_raise}
use Rattle.parity.proofs.Defect.{defect, defect_poly, defect_add, defect_scale, defect_same, checked, checked_is}
use Rattle.parity.proofs.Checking.{terms}
use Rattle.parity.proofs.Last.{kept_points, Inverted, inverted}
use Rattle.parity.proofs.Sums.{factor, terms_at, check_sum}

module _ (s : Shape) (M : Mending s) (p : ℕ) (inside : p < s.n) where
  abbrev P : Placed s
  P = M.placed

  abbrev f : ℕ
  f = s.field

  abbrev R : Ring
  R = ring_of s.field

  abbrev F : Field
  F = field_of s.field

  pub slot_room : p < room s
  slot_room = omega (arith, n_room s P)

  pub others_number : length (others s p) ≡ s.r
  unfolding size
  others_number = omega (arith, length_others s P p slot_room, M.one)

  pub distinct : Distinct (others s p)
  distinct = others_distinct s P p slot_room

  pub others_differ : (i j : ℕ) → In i (others s p) → In j (others s p) → locator s i ≡ locator s j → i ≡ j
  others_differ = places_differ s P (others s p) distinct (λ o i. (other_is s P p slot_room i).below)

  pub others_apart : (m : ℕ) → In m (others s p) → locator s m ≢ locator s p
  others_apart m i e =
      let o = other_is s P p slot_room i in
      o.other_place (locators_differ s P m p o.below slot_room e)

  pub mates_all : length (mates s p) ≡ s.r → mates s p ≡ others s p
  unfolding mates
  mates_all full =
      take_all (members s (group s p) - 1) (others s p) (omega (arith, others_number, length_mates s P p inside))

  abbrev pub check : ℕ → (Elem s.field → Elem s.field) → Elem s.field
  check l g = defect (field_of s.field) (locator s) (others s p) (locator s p) (λ y. (ring_of s.field).mul (terms_at s l y) (g y))

  pub check_is : length (mates s p) ≡ s.r → (l : ℕ) (g : Elem s.field → Elem s.field) → Poly (ring_of s.field) s.r g → (ys : List ℕ)
      → map (λ m. (g (locator s m)).0) (mates s p) ≡ ys → dotted s.field (check_weights s p l) ys ≡ (check l g).0
  unfolding check_weights
  check_is full l g c ys e =
      ap (dotted f (map (check_weight s p l) (mates s p))) (sym e)
      ∙ check_sum s p l (λ m. g (locator s m)) (mates s p)
      ∙ ap (λ ms. (checked F (locator s) (others s p) (locator s p) (terms_at s l) (λ m. g (locator s m)) ms).0) (mates_all full)
      ∙ ap (λ (v : Elem f). v.0)
      (checked_is F (locator s) (others s p) (locator s p) distinct others_differ (terms_at s l) g
      (poly_more R s.r (length (others s p)) (omega (arith, others_number)) c))

  -- the one point of whole groups' terms
  abbrev pub origin : List (Elem s.field)
  origin = (ring_of s.field).nil ∷ []

  pub whole_check : whole s ≡ true → (l : ℕ) (g : Elem s.field → Elem s.field)
      → check l g ≡ defect (field_of s.field) (locator s) (others s p) (locator s p)
      (λ y. (ring_of s.field).mul (terms (field_of s.field) (locator s) (others s p) (locator s p) distinct others_differ origin l y) (g y))
  unfolding factor vanish
  whole_check w l g =
      let same : (y : Elem f) → R.mul (terms_at s l y) (g y) ≡ R.mul (R.mul (R.mul (R.sub y R.nil) R.unit) (pow R y l)) (g y)
      = λ y. ap (λ (v : Elem f). R.mul (R.mul v (pow R y l)) (g y)) (ap (λ b. factor s b y) w ∙ sym (R.mul_unit (R.sub y R.nil) ∙ sub_nil R y)) in
      defect_same F (locator s) (others s p) (locator s p) (λ y. R.mul (terms_at s l y) (g y))
      (λ y. R.mul (R.mul (R.mul (R.sub y R.nil) R.unit) (pow R y l)) (g y)) (λ m i. same (locator s m)) (same (locator s p))

  module _ (short : whole s ≡ false) (other : group s p ≢ groups s - 1) where
    abbrev h : Elem f → Elem f
    h y = vanish R (behind s) y

    abbrev pub I : Inverted s P short p slot_room other
    I = inverted s P short p slot_room other

    abbrev t : ℕ → Elem f → Elem f
    t = terms F (locator s) (others s p) (locator s p) distinct others_differ (kept_points s P short)

    split_term : (v h k d z a u : Elem f) → v ≡ R.mul k d → R.mul v h ≡ R.unit
        → R.mul (R.mul v z) (R.add a (R.mul h u)) ≡ R.add (R.mul k (R.mul (R.mul d z) a)) (R.mul z u)
    split_term v h k d z a u e o =
        R.mul_add (R.mul v z) a (R.mul h u)
        ∙ ap₂ R.add
        (ap (λ (w : Elem f). R.mul (R.mul w z) a) e ∙ ap (λ (w : Elem f). R.mul w a) (R.mul_assoc k d z) ∙ R.mul_assoc k (R.mul d z) a)
        (sym (R.mul_assoc (R.mul v z) h u)
        ∙ ap (λ (w : Elem f). R.mul w u) (R.mul_assoc v z h ∙ ap (R.mul v) (R.mul_comm z h) ∙ sym (R.mul_assoc v h z) ∙ ap (λ (w : Elem f). R.mul w z) o ∙ unit_mul R z))

    pub short_check : (l n : ℕ) (a u : Elem s.field → Elem s.field) → Poly (ring_of s.field) n u → n + l ≤ s.r
        → check l (λ y. (ring_of s.field).add (a y) ((ring_of s.field).mul (vanish (ring_of s.field) (behind s) y) (u y)))
        ≡ (ring_of s.field).mul I.κ (defect (field_of s.field) (locator s) (others s p) (locator s p)
        (λ y. (ring_of s.field).mul (terms (field_of s.field) (locator s) (others s p) (locator s p) distinct others_differ (kept_points s P short) l y) (a y)))
    unfolding factor
    short_check l n a u c b =
        let g : Elem f → Elem f = λ y. R.add (a y) (R.mul (h y) (u y)) in
        let one : Elem f → Elem f = λ y. R.mul (t l y) (a y) in
        let two : Elem f → Elem f = λ y. R.mul (pow R y l) (u y) in
        let same : (i : ℕ) → group s i ≡ group s p → R.mul (terms_at s l (locator s i)) (g (locator s i)) ≡ R.add (R.mul I.κ (one (locator s i))) (two (locator s i))
        = λ i e. let y = locator s i in
        ap (λ (b : Bool). R.mul (R.mul (factor s b y) (pow R y l)) (g y)) short
        ∙ split_term (inv f (h y)) (h y) I.κ (vanish R (kept_points s P short) y) (pow R y l) (a y) (u y) (I.is i e) (I.whole_again i e) in
        defect_same F (locator s) (others s p) (locator s p) (λ y. R.mul (terms_at s l y) (g y)) (λ y. R.add (R.mul I.κ (one y)) (two y))
        (λ m i. same m (other_is s P p slot_room i).group_same) (same p refl)
        ∙ defect_add F (locator s) (others s p) (locator s p) (λ y. R.mul I.κ (one y)) two
        ∙ ap₂ R.add (defect_scale F (locator s) (others s p) (locator s p) I.κ one)
        (defect_poly F (locator s) (others s p) (locator s p) distinct others_differ two
        (poly_more R (n + l) (length (others s p)) (omega (arith, others_number)) (poly_raise R n l c)))
        ∙ R.add_nil (R.mul I.κ (defect F (locator s) (others s p) (locator s p) one))
