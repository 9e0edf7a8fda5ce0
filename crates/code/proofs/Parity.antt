-- The points of a group are a parity check of the group's values, and so a repair weight is one quotient. Assumes nothing.
--   group_parity    the sum of point times value over a group is 0 for polynomials with fewer coefficients than members
--   weight_is       where one loss is tolerated the weight of mate m for slot p is - x m / x p, x the points
--   weights_are     WeightsAre of specs/Promise.antt
use mathlib.Core.Path.{◌≡◌, sym, ap, ap₂, ◌∙◌}
use mathlib.Core.Logic.{◌≢◌}
use Prim.Native.Nat.{ℕ, suc, ◌+◌, ◌*◌, ◌-◌, ◌≤◌, ◌<◌}
use native.Mathlib.Nat.{mul-le-mul_left}
use native.Mathlib.Omega.{arith}
use lib.ListN.{length}
use Rattle.algebra.specs.Ring.{Ring, Field, pow}
use Rattle.algebra.specs.Sequence.{In}
use Rattle.algebra.specs.Polynomial.{Poly}
use Rattle.algebra.specs.Equations.{dot}
use Rattle.algebra.specs.Interpolation.{weigh}
use Rattle.algebra.proofs.Ring.{pow_add, pow_mul, unit_mul, root_is}
use Rattle.algebra.proofs.Each.{each_intro, map_each}
use Rattle.algebra.proofs.Interpolation.{basis_poly, weigh_own, weigh_other}
use Rattle.algebra.proofs.Equations.{dot_cong}
use Rattle.algebra.proofs.Parity.{parity, cycle_sum, dot_two}
use Rattle.field.specs.Field.{q, minus, times, power, inverse}
use Rattle.field.proofs.Laws.{laws}
use Rattle.field.proofs.Generator.{powers_differ}
use Rattle.field.proofs.Elem.{Elem, ring_of, field_of, gen, pow_is, gen_whole, inv}
use Rattle.code.specs.declared.Shape.{Shape}
use Rattle.code.specs.Shape.{size, groups, room, group, member, slot_at, point, others, mates}
use Rattle.code.specs.Repair.{weight_over, weights_over, weights}
use Rattle.code.specs.Laws.{Placed}
use Rattle.code.specs.Promise.{WeightsAre}
use Rattle.code.proofs.Places.{n_room, groups_least, group_below, member_below, slot_group_member, member_slot_at, same_place}
use Rattle.code.proofs.Points.{width, width_size, groups_narrow, locator, locator_at, locator_nonzero}
use Rattle.code.proofs.Others.{Other, length_others, others_distinct, other_is, others_all}
use Rattle.code.proofs.Mates.{mate_other}
use Rattle.code.proofs.Weights.{weigh_is, places_differ}

module _ (s : Shape) (P : Placed s) where
  abbrev f : ℕ
  f = s.field

  abbrev R : Ring
  R = ring_of s.field

  abbrev F : Field
  F = field_of s.field

  -- the step from one member to the next, to the power e
  abbrev ζ : ℕ → Elem f
  ζ e = pow R (gen f) (width s * e)

  width_least : 1 ≤ width s
  width_least = omega (arith, groups_narrow s P, groups_least s P)

  step_apart : (e : ℕ) → 1 ≤ e → e < size s → ζ e ≢ R.unit
  unfolding gen power
  step_apart e h l z =
      let w = width s in
      let b : w * e < q f - 1 = omega (arith, width_size s P, width_least, mul-le-mul_left w l) in
      let n : w * e ≡ 0 = powers_differ f (w * e) 0 b (omega (arith, (laws f).two_below)) (sym (pow_is f (gen f) (w * e)) ∙ ap (λ x. x.0) z) in
      omega (arith, width_least, mul-le-mul_left w h)

  module _ (j : ℕ) where
    -- member i of the group, and on around the cycle
    around : ℕ → Elem f
    around i = pow R (gen f) (i * width s + j)

    around_next : (e i : ℕ) → pow R (around (suc i)) e ≡ R.mul (ζ e) (pow R (around i) e)
    unfolding around
    around_next e i =
        pow_mul R (gen f) (suc i * width s + j) e ∙ ap (pow R (gen f)) (split (width s) i j e)
        ∙ pow_add R (gen f) (width s * e) ((i * width s + j) * e) ∙ ap (R.mul (ζ e)) (sym (pow_mul R (gen f) (i * width s + j) e))
      where
        split : (w i j e : ℕ) → (suc i * w + j) * e ≡ w * e + (i * w + j) * e
        split w i j e = omega arith

    around_closed : around (size s) ≡ around 0
    unfolding around
    around_closed =
        ap (pow R (gen f)) (omega (arith, width_size s P)) ∙ pow_add R (gen f) (q f - 1) (0 * width s + j)
        ∙ ap (λ x. R.mul x (pow R (gen f) (0 * width s + j))) (gen_whole f) ∙ unit_mul R (pow R (gen f) (0 * width s + j))

    power_sums : (e : ℕ) → 1 ≤ e → e < size s → (x : Elem f) → dot R (size s) (λ i. pow R (around i) e) (λ _. x) ≡ R.nil
    power_sums e h l x =
        cycle_sum F (size s) (ζ e) (λ i. pow R (around i) e) (around_next e) x (step_apart e h l) (ap (λ y. pow R y e) around_closed)

    pub group_parity : j < groups s → (k : ℕ) {g : Elem s.field → Elem s.field} → k < size s → Poly (ring_of s.field) k g
        → dot (ring_of s.field) (size s) (λ i. locator s (slot_at s j i)) (λ i. g (locator s (slot_at s j i))) ≡ (ring_of s.field).nil
    unfolding around
    group_parity inside k {g} l p =
        dot_cong R (size s) (λ i. locator s (slot_at s j i)) around (λ i. g (locator s (slot_at s j i))) (λ i. g (around i))
        (λ i h. ap (λ x. R.mul x (g x)) (locator_at s P j i inside h))
        ∙ parity R (size s) around power_sums k l p

  module _ (p o : ℕ) (inside : p < room s) (other : In o (others s p)) where
    -- Lagrange's basis polynomial of the other place: its value at p's point is the weight
    basis : Elem f → Elem f
    basis x = weigh F (locator s) x (locator s o) o (others s p)

    -- member i of the group
    abbrev at : ℕ → ℕ
    at i = slot_at s (group s p) i

    O : Other s p o
    O = other_is s P p inside other

    at_other : at (member s o) ≡ o
    at_other = ap (λ j. slot_at s j (member s o)) (sym O.group_same) ∙ slot_group_member s P o

    basis_few : Poly R (length (others s p)) basis
    unfolding basis
    basis_few = basis_poly F (locator s) o (others s p) other

    differ : (i j : ℕ) → In i (others s p) → In j (others s p) → locator s i ≡ locator s j → i ≡ j
    differ = places_differ s P (others s p) (others_distinct s P p inside) (λ i h. (other_is s P p inside h).below)

    basis_own : basis (locator s o) ≡ R.unit
    unfolding basis
    basis_own =
        weigh_own F (locator s) o (others s p)
        (each_intro (λ i. i ≢ o → locator s o ≢ locator s i) (others s p) (λ i h n e. n (sym (differ o i other h e))))

    basis_other : (i : ℕ) → i < size s → i ≢ member s p → i ≢ member s o → basis (locator s (at i)) ≡ R.nil
    unfolding basis
    basis_other i h n d =
        weigh_other F (locator s) (locator s o) o (others_all s P p inside i h n)
        (λ e. d (sym (member_slot_at s P (group s p) i (group_below s P p inside) h) ∙ ap (member s) e))

    apart : member s p ≢ member s o
    apart e = O.other_place (same_place s P o p O.group_same (sym e))

    two_terms : R.add (R.mul (locator s p) (basis (locator s p))) (locator s o) ≡ R.nil
    two_terms =
        sym (dot_two R (size s) (member s p) (member s o) (λ i. locator s (at i)) (λ i. basis (locator s (at i)))
        (member_below s P p inside) (member_below s P o O.below) apart basis_other
        ∙ ap₂ R.add (ap (λ i. R.mul (locator s i) (basis (locator s i))) (slot_group_member s P p))
        (ap (λ i. R.mul (locator s i) (basis (locator s i))) at_other ∙ ap (R.mul (locator s o)) basis_own ∙ R.mul_unit (locator s o)))
        ∙ group_parity (group s p) (group_below s P p inside) (length (others s p)) (omega (arith, length_others s P p inside)) basis_few

    pub weight_is : weight_over s (point s p) (point s o) o (others s p) ≡ minus s.field 0 (times s.field (point s o) (inverse s.field (point s p)))
    unfolding locator inv basis
    weight_is =
        sym (weigh_is s p o (others s p))
        ∙ ap (λ x. x.0) (root_is F (locator s p) (locator s o) (basis (locator s p)) (locator_nonzero s p) two_terms)

pub weights_are : WeightsAre
unfolding WeightsAre weights weights_over
weights_are s p P one h =
    let f = s.field in
    let w : ℕ → ℕ = λ m. weight_over s (point s p) (point s m) m (others s p) in
    map_each w (λ m. minus f 0 (times f (point s m) (inverse f (point s p)))) (mates s p)
    (each_intro (λ m. w m ≡ minus f 0 (times f (point s m) (inverse f (point s p)))) (mates s p)
    (λ m i. weight_is s P p m (omega (arith, n_room s P)) (mate_other s P p h i)))
