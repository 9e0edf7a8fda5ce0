-- Lagrange's formula over any field: the weighted sum over places with different points. Assumes nothing.
--   basis_poly, weigh_own, weigh_other    a weight, as a function of x: a polynomial, 1 at its own point and 0 at the others
--   through    the weighted sum takes the given value at each place's point
--   weighted_poly    it is a polynomial with as many coefficients as places
--   lagrange   so it is the one polynomial of that degree with these values
use mathlib.Core.Path.{◌≡◌, refl, sym, ap, ap₂, ◌∙◌}
use mathlib.Core.Logic.{◌≢◌}
use mathlib.Core.Bool.{Bool, true, false, cond}
use mathlib.Core.List.{List, [], ◌∷◌, map}
use Prim.Native.Nat.{ℕ, suc, ◌≤◌, ◌<◌, zero-le, suc-le-suc}
use native.Mathlib.Omega.{arith}
use lib.Dec.{eqb}
use lib.ListN.{length, length-map}
use Rattle.algebra.specs.Ring.{Field}
use Rattle.algebra.specs.Sequence.{Each, Distinct, In, here, there}
use Rattle.algebra.specs.Polynomial.{Poly}
use Rattle.algebra.specs.Interpolation.{weigh, weighted}
use Rattle.algebra.proofs.Ring.{nil_add, nil_mul, mul_nil, unit_mul, sub_self, eq_of_sub}
use Rattle.algebra.proofs.Equality.{Same, same, other, same?}
use Rattle.algebra.proofs.Each.{each_intro, each_at, each_map, distinct_map}
use Rattle.algebra.proofs.Polynomial.{poly_const, poly_zero, poly_more, poly_add, poly_scale, poly_linear, poly_same, unique}

-- how many of a list are not m
others : ℕ → List ℕ → ℕ
others m [] = 0
others m (o ∷ os) = cond (eqb o m) (others m os) (suc (others m os))

others_most : (m : ℕ) (os : List ℕ) → others m os ≤ length os
unfolding others
others_most m [] = zero-le
others_most m (o ∷ os) = go (eqb o m) (others_most m os)
  where
    go : (b : Bool) → others m os ≤ length os → cond b (others m os) (suc (others m os)) ≤ suc (length os)
    go true h = omega arith
    go false h = omega arith

others_less : (m : ℕ) {os : List ℕ} → In m os → others m os < length os
unfolding others
others_less m (here {xs = os}) = go (eqb m m) (same? m m)
  where
    go : (b : Bool) → Same m m b → cond b (others m os) (suc (others m os)) < suc (length os)
    go true h = suc-le-suc (others_most m os)
    go false (other n) = absurd (n refl)
others_less m (there {y = o} {xs = os} i) = go (eqb o m) (others_less m i)
  where
    go : (b : Bool) → others m os < length os → cond b (others m os) (suc (others m os)) < suc (length os)
    go true h = omega arith
    go false h = omega arith

module _ (F : Field) (pt : ℕ → F.ring.El) where
  open F use {ring, inv, mul_inv}
  open F.ring use {El, nil as 𝟘, unit as 𝟙, add as ◌⊕◌, sub as ◌⊖◌, mul as ◌⊗◌, add_nil, mul_comm, mul_assoc}

  infixl 60 ◌⊕◌
  infixl 60 ◌⊖◌
  infixl 70 ◌⊗◌
  weigh_poly : (z : El) (m : ℕ) (os : List ℕ) → Poly ring (suc (others m os)) (λ x. weigh F pt x z m os)
  unfolding weigh others
  weigh_poly z m [] = poly_const ring 𝟙
  weigh_poly z m (o ∷ os) = go (eqb o m) (weigh_poly z m os)
    where
      go : (b : Bool) → Poly ring (suc (others m os)) (λ x. weigh F pt x z m os)
          → Poly ring (suc (cond b (others m os) (suc (others m os)))) (λ x. cond b (weigh F pt x z m os) ((x ⊖ pt o) ⊗ inv (z ⊖ pt o) ⊗ weigh F pt x z m os))
      go true p = p
      go false p = poly_linear ring (suc (others m os)) (pt o) (inv (z ⊖ pt o)) p

  -- with as many coefficients as places
  pub basis_poly : (m : ℕ) (os : List ℕ) → In m os → Poly ring (length os) (λ x. weigh F pt x (pt m) m os)
  basis_poly m os i = poly_more ring (suc (others m os)) (length os) (others_less m i) (weigh_poly (pt m) m os)

  pub weighted_poly : (os : List ℕ) (v : ℕ → El) (ms : List ℕ) → Each (λ m. In m os) ms → Poly ring (length os) (λ x. weighted F pt x os v ms)
  unfolding weighted
  weighted_poly os v [] e = poly_more ring 0 (length os) zero-le (poly_zero ring)
  weighted_poly os v (m ∷ ms) e =
      poly_add ring (length os)
      (poly_same ring (length os) (λ x. mul_comm (weigh F pt x (pt m) m os) (v m))
      (poly_scale ring (length os) (v m) (basis_poly m os e.0)))
      (weighted_poly os v ms e.1)

  -- a weight at another place's point is zero, and at its own one
  pub weigh_other : (z : El) (m : ℕ) {s : ℕ} {os : List ℕ} → In s os → s ≢ m → weigh F pt (pt s) z m os ≡ 𝟘
  unfolding weigh
  weigh_other z m {s = s} (here {xs = os}) h = go (eqb s m) (same? s m)
    where
      go : (b : Bool) → Same s m b → cond b (weigh F pt (pt s) z m os) ((pt s ⊖ pt s) ⊗ inv (z ⊖ pt s) ⊗ weigh F pt (pt s) z m os) ≡ 𝟘
      go true (same e) = absurd (h e)
      go false n =
          ap (λ d. d ⊗ inv (z ⊖ pt s) ⊗ weigh F pt (pt s) z m os) (sub_self ring (pt s))
          ∙ ap (λ d. d ⊗ weigh F pt (pt s) z m os) (nil_mul ring (inv (z ⊖ pt s))) ∙ nil_mul ring (weigh F pt (pt s) z m os)
  weigh_other z m {s = s} (there {y = o} {xs = os} i) h = go (eqb o m) (weigh_other z m i h)
    where
      go : (b : Bool) → weigh F pt (pt s) z m os ≡ 𝟘 → cond b (weigh F pt (pt s) z m os) ((pt s ⊖ pt o) ⊗ inv (z ⊖ pt o) ⊗ weigh F pt (pt s) z m os) ≡ 𝟘
      go true e = e
      go false e = ap (λ d. (pt s ⊖ pt o) ⊗ inv (z ⊖ pt o) ⊗ d) e ∙ mul_nil ring ((pt s ⊖ pt o) ⊗ inv (z ⊖ pt o))

  pub weigh_own : (m : ℕ) (os : List ℕ) → Each (λ o. o ≢ m → pt m ≢ pt o) os → weigh F pt (pt m) (pt m) m os ≡ 𝟙
  unfolding weigh
  weigh_own m [] e = refl
  weigh_own m (o ∷ os) e = go (eqb o m) (same? o m) (weigh_own m os e.1)
    where
      go : (b : Bool) → Same o m b → weigh F pt (pt m) (pt m) m os ≡ 𝟙
          → cond b (weigh F pt (pt m) (pt m) m os) ((pt m ⊖ pt o) ⊗ inv (pt m ⊖ pt o) ⊗ weigh F pt (pt m) (pt m) m os) ≡ 𝟙
      go true s p = p
      go false (other n) p =
          ap₂ ◌⊗◌ (mul_inv (pt m ⊖ pt o) (λ z. e.0 n (eq_of_sub ring (pt m) (pt o) z))) p ∙ unit_mul ring 𝟙

  module _ (os : List ℕ) (v : ℕ → El) (s : ℕ) (inside : In s os) (apart : Each (λ o. o ≢ s → pt s ≢ pt o) os) where
    weighted_out : (ms : List ℕ) → Each (λ m. m ≢ s) ms → weighted F pt (pt s) os v ms ≡ 𝟘
    unfolding weighted
    weighted_out [] e = refl
    weighted_out (m ∷ ms) e =
        ap₂ ◌⊕◌ (ap (λ n. n ⊗ v m) (weigh_other (pt m) m inside (λ p. e.0 (sym p))) ∙ nil_mul ring (v m)) (weighted_out ms e.1) ∙ add_nil 𝟘

    weighted_in : {ms : List ℕ} → Distinct ms → In s ms → weighted F pt (pt s) os v ms ≡ v s
    unfolding weighted
    weighted_in d (here {xs = ms}) =
        ap₂ ◌⊕◌ (ap (λ n. n ⊗ v s) (weigh_own s os apart) ∙ unit_mul ring (v s)) (weighted_out ms d.0) ∙ add_nil (v s)
    weighted_in d (there {y = m} i) =
        ap₂ ◌⊕◌ (ap (λ n. n ⊗ v m) (weigh_other (pt m) m inside (λ p. each_at (λ n. n ≢ m) d.0 i p)) ∙ nil_mul ring (v m)) (weighted_in d.1 i)
        ∙ nil_add ring (v s)

  module _ (os : List ℕ) (distinct : Distinct os) (differ : (i j : ℕ) → In i os → In j os → pt i ≡ pt j → i ≡ j) where
    pub through : (v : ℕ → El) (s : ℕ) → In s os → weighted F pt (pt s) os v os ≡ v s
    through v s i =
        weighted_in os v s i (each_intro (λ o. o ≢ s → pt s ≢ pt o) os (λ o j n e. n (differ o s j i (sym e)))) distinct i

    -- Lagrange's formula
    pub lagrange : {g : El → El} → Poly ring (length os) g → (x : El) → weighted F pt x os (λ m. g (pt m)) os ≡ g x
    lagrange {g} p x =
        unique F (map pt os) (distinct_map pt os differ distinct) (rw length-map (weighted_poly os (λ m. g (pt m)) os (each_intro (λ m. In m os) os (λ m i. i))))
        (rw length-map p)
        (each_map pt (λ y. weighted F pt y os (λ m. g (pt m)) os ≡ g y) os
        (each_intro (λ s. weighted F pt (pt s) os (λ m. g (pt m)) os ≡ g (pt s)) os (through (λ m. g (pt m))))) x
