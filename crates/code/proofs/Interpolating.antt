-- Repair for any mates' symbols: one polynomial with r coefficients goes through them and is 0 behind the slots. Assumes nothing.
--   repair_interpolates    RepairInterpolates of specs/Promise.antt
use mathlib.Core.Path.{◌≡◌, refl, sym, ap, ◌∙◌}
use mathlib.Core.Logic.{◌≢◌}
use mathlib.Core.Bool.{Bool, true, false, cond}
use mathlib.Core.List.{List, [], ◌∷◌, map}
use Prim.Native.Nat.{ℕ, ◌-◌, ◌≤◌, ◌<◌}
use native.Mathlib.Omega.{arith}
use lib.Dec.{T, eqb}
use lib.ListN.{length, length-map, drop}
use Rattle.algebra.specs.Ring.{Ring, Field}
use Rattle.algebra.specs.Sequence.{all_below, Each, In}
use Rattle.algebra.specs.Polynomial.{eval, Poly}
use Rattle.algebra.specs.Interpolation.{weighted}
use Rattle.algebra.proofs.Booleans.{so, yes_true}
use Rattle.algebra.proofs.Equality.{Same, same, same?}
use Rattle.algebra.proofs.Each.{each_intro, each_at, each_map, distinct_map, map_each, each_of_map}
use Rattle.algebra.proofs.Lookup.{lookup, lookup_below, map_lookup}
use Rattle.algebra.proofs.Polynomial.{pad, length_pad, eval_pad, unique_coefs}
use Rattle.algebra.proofs.Interpolation.{through, weighted_poly}
use Rattle.field.specs.Field.{q}
use Rattle.field.specs.Polynomial.{poly, dotted}
use Rattle.field.proofs.Elem.{Elem, same as same_el, ring_of, field_of, zero_below, el, el_is}
use Rattle.field.proofs.Elements.{els, nums, els_injective, nums_below, poly_nums, poly_els}
use Rattle.code.specs.declared.Shape.{Shape}
use Rattle.code.specs.Shape.{size, room, group, members, point, others, mates}
use Rattle.code.specs.Repair.{restored, weights, repaired}
use Rattle.code.specs.Laws.{Placed}
use Rattle.code.specs.Promise.{WeightsLaw, Through, RepairInterpolates}
use Rattle.code.proofs.Places.{n_room}
use Rattle.code.proofs.Points.{locator}
use Rattle.code.proofs.Fronts.{each_both, in_drop}
use Rattle.code.proofs.Others.{length_others, others_distinct, other_is}
use Rattle.code.proofs.Mates.{mates_distinct, mate_other, mate_below, mates_behind}
use Rattle.code.proofs.Weights.{places_differ, weights_law}

-- no value goes with what is no key
lookup_none : (ms xs : List ℕ) (o : ℕ) → Each (λ m. m ≢ o) ms → lookup ms xs o ≡ 0
unfolding lookup
lookup_none [] xs o e = refl
lookup_none (m ∷ ms) [] o e = refl
lookup_none (m ∷ ms) (x ∷ xs) o e = go (eqb m o) (same? m o) (lookup_none ms xs o e.1)
  where
    go : {y : ℕ} (b : Bool) → Same m o b → y ≡ 0 → cond b x y ≡ 0
    go true (same p) z = absurd (e.0 p)
    go false p z = z

module _ (s : Shape) (P : Placed s) (one : s.tolerance ≡ 1) (p : ℕ) (inside : p < s.n) where
  abbrev f : ℕ
  f = s.field

  abbrev R : Ring
  R = ring_of s.field

  abbrev F : Field
  F = field_of s.field

  abbrev os : List ℕ
  os = others s p

  roomy : p < room s
  roomy = omega (arith, n_room s P)

  length_is : length os ≡ s.r
  unfolding size
  length_is = omega (arith, length_others s P p roomy)

  differ : (i j : ℕ) → In i os → In j os → locator s i ≡ locator s j → i ≡ j
  differ = places_differ s P os (others_distinct s P p roomy) (λ o i. (other_is s P p roomy i).below)

  module _ (xs : List ℕ) (long : length xs ≡ length (mates s p)) (below : T (all_below (q f) xs)) where
    given : ℕ → Elem f
    given o = el f (lookup (mates s p) xs o)

    given_is : (o : ℕ) → (given o).0 ≡ lookup (mates s p) xs o
    unfolding given
    given_is o = el_is f (lookup (mates s p) xs o) (lookup_below (q f) (mates s p) xs o (zero_below f) below)

    curve : Poly R (length os) (λ x. weighted F (locator s) x os given os)
    curve = weighted_poly F (locator s) os given os (each_intro (λ o. In o os) os (λ o i. i))

    fitted : List (Elem f)
    fitted = pad R s.r curve.coefs

    length_fitted : length fitted ≡ s.r
    unfolding fitted
    length_fitted = length_pad R s.r curve.coefs (omega (arith, curve.few, length_is))

    fitted_at : (o : ℕ) → In o os → poly f (nums f fitted) (point s o) ≡ lookup (mates s p) xs o
    unfolding locator fitted
    fitted_at o i =
        poly_nums f fitted (locator s o)
        ∙ ap (λ x. x.0)
        (eval_pad R s.r curve.coefs (locator s o) ∙ sym (curve.is (locator s o))
        ∙ through F (locator s) os (others_distinct s P p roomy) differ given o i)
        ∙ given_is o

    fitted_through : Through s p xs (nums f fitted)
    fitted_through =
        record {
          few = length-map fitted (λ x. x.0) ∙ length_fitted;
          below = yes_true (all_below (q f) (nums f fitted)) (nums_below f fitted);
          is =
              map_each (λ m. poly f (nums f fitted) (point s m)) (lookup (mates s p) xs) (mates s p)
              (each_intro (λ m. poly f (nums f fitted) (point s m) ≡ lookup (mates s p) xs m) (mates s p) (λ m i. fitted_at m (mate_other s P p inside i)))
              ∙ map_lookup (mates s p) xs (mates_distinct s P p inside) (sym long);
          zeros = λ o i h.
              fitted_at o i
              ∙ lookup_none (mates s p) xs o (each_intro (λ m. m ≢ o) (mates s p) (λ m j e. absurd (omega (arith, mate_below s P p inside j))));
        }

  through_only : (xs cs ds : List ℕ) → Through s p xs cs → Through s p xs ds → cs ≡ ds
  unfolding mates locator
  through_only xs cs ds a b =
      els_injective f cs ds (so a.below) (so b.below)
      (unique_coefs F (map (locator s) os) (els f cs) (els f ds) (distinct_map (locator s) os differ (others_distinct s P p roomy)) (short cs a ∙ sym (short ds b))
      (omega (arith, short cs a, length_is, length-map os (locator s)))
      (each_map (locator s) (λ x. eval R (els f cs) x ≡ eval R (els f ds) x) os
      (each_intro (λ o. eval R (els f cs) (locator s o) ≡ eval R (els f ds) (locator s o)) os agree)))
    where
      short : (es : List ℕ) → Through s p xs es → length (els f es) ≡ s.r
      short es r = length-map es (el f) ∙ r.few

      both : Each (λ o. poly f cs (point s o) ≡ poly f ds (point s o)) os
      both =
          each_both (λ o. poly f cs (point s o) ≡ poly f ds (point s o)) (members s (group s p) - 1) os
          (each_of_map (λ m. poly f cs (point s m)) (λ m. poly f ds (point s m)) (mates s p) (a.is ∙ sym b.is))
          (each_intro (λ o. poly f cs (point s o) ≡ poly f ds (point s o)) (drop (members s (group s p) - 1) os)
          (λ o i. let h = each_at (λ o. s.n ≤ o) (mates_behind s P p inside) i in
          let j = in_drop (members s (group s p) - 1) os i in
          a.zeros o j h ∙ sym (b.zeros o j h)))

      agree : (o : ℕ) → In o os → eval R (els f cs) (locator s o) ≡ eval R (els f ds) (locator s o)
      agree o i =
          same_el f _ _
          (sym (poly_els f cs (so a.below) (locator s o)) ∙ each_at (λ o. poly f cs (point s o) ≡ poly f ds (point s o)) both i
          ∙ poly_els f ds (so b.below) (locator s o))

pub repair_interpolates : RepairInterpolates
unfolding RepairInterpolates WeightsLaw repaired weights restored
repair_interpolates s p xs P one h long below =
    let t = fitted_through s P one p h xs long (so below) in
    let cs = nums s.field (fitted s P one p h xs long (so below)) in
    record {
      coefs = cs;
      through = t;
      only = λ ds u. through_only s P one p h xs ds cs u t;
      answer = ap (dotted s.field (weights s p)) (sym t.is) ∙ weights_law s p cs P one h t.few t.below t.zeros;
    }
