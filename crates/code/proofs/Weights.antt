-- Weights are Lagrange's: with a polynomial's values at some places they give its value at another. Assumes nothing.
--   weigh_is               a weight is that of the field
--   places_differ          points of places differ
--   restored_poly          the value of a polynomial from as many places as it has coefficients
--   restored_front         the same from the first of these places, where it is 0 at the rest
--   weights_law            WeightsLaw of specs/Promise.antt
use mathlib.Core.Path.{◌≡◌, refl, sym, ap, ap₂, ◌∙◌}
use mathlib.Core.Bool.{Bool, true, false, cond}
use mathlib.Core.List.{List, [], ◌∷◌, map}
use Prim.Native.Nat.{ℕ, zero, suc, ◌-◌, ◌≤◌, ◌<◌}
use native.Mathlib.Omega.{arith}
use lib.Dec.{T, eqb}
use lib.ListN.{length, length-map, take, drop}
use Rattle.algebra.specs.Ring.{Ring, Field}
use Rattle.algebra.specs.Sequence.{all_below, Each, Distinct, In}
use Rattle.algebra.specs.Polynomial.{eval, Poly}
use Rattle.algebra.specs.Interpolation.{weigh, weighted}
use Rattle.algebra.proofs.Ring.{mul_nil}
use Rattle.algebra.proofs.Booleans.{so}
use Rattle.algebra.proofs.Each.{each_intro, each_at, map_each}
use Rattle.algebra.proofs.Polynomial.{poly_of}
use Rattle.algebra.proofs.Interpolation.{lagrange}
use Rattle.field.specs.Field.{q, plus, minus, times, inverse}
use Rattle.field.specs.Polynomial.{poly, dotted}
use Rattle.field.proofs.Elem.{Elem, same as same_el, ring_of, field_of, inv, el}
use Rattle.field.proofs.Elements.{els, poly_els}
use Rattle.code.specs.declared.Shape.{Shape}
use Rattle.code.specs.Shape.{size, room, group, members, point, others, mates}
use Rattle.code.specs.Repair.{weight_over, weights_over, restored, weights}
use Rattle.code.specs.Laws.{Placed}
use Rattle.code.specs.Promise.{WeightsLaw}
use Rattle.code.proofs.Places.{n_room}
use Rattle.code.proofs.Points.{locator, locators_differ}
use Rattle.code.proofs.Fronts.{in_drop}
use Rattle.code.proofs.Others.{length_others, others_distinct, other_is}
use Rattle.code.proofs.Mates.{mates_behind}

module _ (s : Shape) where
  abbrev f : ℕ
  f = s.field

  abbrev R : Ring
  R = ring_of s.field

  abbrev F : Field
  F = field_of s.field

  -- weights and weighted sums are those of the field
  module _ (p : ℕ) where
    pub weigh_is : (m : ℕ) (os : List ℕ) → (weigh F (locator s) (locator s p) (locator s m) m os).0 ≡ weight_over s (point s p) (point s m) m os
    unfolding weigh weight_over locator inv
    weigh_is m [] = refl
    weigh_is m (o ∷ os) = go (eqb o m) (weigh F (locator s) (locator s p) (locator s m) m os) (weight_over s (point s p) (point s m) m os) (weigh_is m os)
      where
        go : (b : Bool) (x : Elem f) (y : ℕ) → x.0 ≡ y
            → (cond b x (R.mul (R.mul (R.sub (locator s p) (locator s o)) (inv f (R.sub (locator s m) (locator s o)))) x)).0
            ≡ cond b y (times f (times f (minus f (point s p) (point s o)) (inverse f (minus f (point s m) (point s o)))) y)
        go true x y e = e
        go false x y e = ap (λ n. times f (times f (minus f (point s p) (point s o)) (inverse f (minus f (point s m) (point s o)))) n) e

    weighted_is : (os : List ℕ) (v : ℕ → Elem f) (ms : List ℕ)
        → (weighted F (locator s) (locator s p) os v ms).0 ≡ restored s os ms p (map (λ m. (v m).0) ms)
    unfolding weighted dotted restored weights_over
    weighted_is os v [] = refl
    weighted_is os v (m ∷ ms) = ap₂ (plus f) (ap (λ w. times f w (v m).0) (weigh_is m os)) (weighted_is os v ms)

    -- terms that are 0
    weighted_none : (os : List ℕ) (v : ℕ → Elem f) (ms : List ℕ) → Each (λ m. v m ≡ R.nil) ms → weighted F (locator s) (locator s p) os v ms ≡ R.nil
    unfolding weighted
    weighted_none os v [] e = refl
    weighted_none os v (m ∷ ms) e =
        let w = weigh F (locator s) (locator s p) (locator s m) m os in
        ap₂ R.add (ap (R.mul w) e.0 ∙ mul_nil R w) (weighted_none os v ms e.1) ∙ R.add_nil R.nil

    weighted_front : (os : List ℕ) (v : ℕ → Elem f) (k : ℕ) (ms : List ℕ) → Each (λ m. v m ≡ R.nil) (drop k ms)
        → weighted F (locator s) (locator s p) os v (take k ms) ≡ weighted F (locator s) (locator s p) os v ms
    unfolding weighted
    weighted_front os v zero ms e = sym (weighted_none os v ms e)
    weighted_front os v (suc k) [] e = refl
    weighted_front os v (suc k) (m ∷ ms) e = ap (R.add (R.mul (weigh F (locator s) (locator s p) (locator s m) m os) (v m))) (weighted_front os v k ms e)

  module _ (P : Placed s) (os : List ℕ) (distinct : Distinct os) (inside : (o : ℕ) → In o os → o < room s) where
    pub places_differ : (i j : ℕ) → In i os → In j os → locator s i ≡ locator s j → i ≡ j
    places_differ i j a b e = locators_differ s P i j (inside i a) (inside j b) e

    module _ (p : ℕ) (cs : List ℕ) (long : length cs ≡ length os) (below : T (all_below (q s.field) cs)) where
      through : Elem f → Elem f
      through x = eval R (els f cs) x

      through_poly : Poly R (length os) through
      unfolding through
      through_poly = let e : length (els f cs) ≡ length os = length-map cs (el f) ∙ long in rw (← e) (poly_of R (els f cs))

      through_is : (m : ℕ) → poly f cs (point s m) ≡ (through (locator s m)).0
      unfolding through locator
      through_is m = poly_els f cs below (locator s m)

      values : (ms : List ℕ) → map (λ m. poly f cs (point s m)) ms ≡ map (λ m. (through (locator s m)).0) ms
      values ms =
          map_each (λ m. poly f cs (point s m)) (λ m. (through (locator s m)).0) ms
          (each_intro (λ m. poly f cs (point s m) ≡ (through (locator s m)).0) ms (λ m i. through_is m))

      sum_is : (weighted F (locator s) (locator s p) os (λ m. through (locator s m)) os).0 ≡ poly f cs (point s p)
      sum_is =
          ap (λ x. x.0) (lagrange F (locator s) os distinct places_differ through_poly (locator s p)) ∙ sym (through_is p)

      pub restored_poly : restored s os os p (map (λ m. poly s.field cs (point s m)) os) ≡ poly s.field cs (point s p)
      restored_poly = ap (restored s os os p) (values os) ∙ sym (weighted_is p os (λ m. through (locator s m)) os) ∙ sum_is

      pub restored_front : (k : ℕ) → Each (λ o. poly s.field cs (point s o) ≡ 0) (drop k os)
          → restored s os (take k os) p (map (λ m. poly s.field cs (point s m)) (take k os)) ≡ poly s.field cs (point s p)
      restored_front k z =
          ap (restored s os (take k os) p) (values (take k os)) ∙ sym (weighted_is p os (λ m. through (locator s m)) (take k os))
          ∙ ap (λ x. x.0) (weighted_front p os (λ m. through (locator s m)) k os
          (each_intro (λ m. through (locator s m) ≡ R.nil) (drop k os)
          (λ m i. same_el f _ _ (sym (through_is m) ∙ each_at (λ o. poly f cs (point s o) ≡ 0) z i))))
          ∙ sum_is

pub weights_law : WeightsLaw
unfolding WeightsLaw weights mates restored size
weights_law s p cs P one h long below z =
    let l : p < room s = omega (arith, n_room s P) in
    let k : ℕ = members s (group s p) - 1 in
    restored_front s P (others s p) (others_distinct s P p l) (λ o i. (other_is s P p l i).below) p cs (omega (arith, length_others s P p l)) (so below) k
    (each_intro (λ o. poly s.field cs (point s o) ≡ 0) (drop k (others s p))
    (λ o i. z o (in_drop k (others s p) i) (each_at (λ o. s.n ≤ o) (mates_behind s P p h) i)))
