-- Whole groups, and message symbol m goes with X to the power exponent m: a family, if the exponents differ and fit. Assumes nothing.
--   ExponentsFit s    == what the exponents have to be
--   basis_power    the basis polynomials are powers
--   value_terms    the values are sums of symbol times power
--   monomial       such a shape is a family
use mathlib.Core.Path.{◌≡◌, refl, sym, ap, ap₂, ◌∙◌}
use mathlib.Core.Bool.{true, cond}
use mathlib.Core.List.{List, [], ◌∷◌}
use Prim.Native.Nat.{ℕ, suc, ◌+◌, ◌*◌, ◌/◌, ◌%◌, ◌≤◌, ◌<◌}
use native.Mathlib.Nat.{div-add-mod', mul_comm}
use native.Mathlib.Omega.{arith}
use lib.Dec.{T, ltb, ltb→lt}
use lib.ListN.{length-map}
use Rattle.algebra.specs.Ring.{Ring, pow}
use Rattle.algebra.specs.Sequence.{all_below}
use Rattle.algebra.specs.Polynomial.{Poly}
use Rattle.algebra.specs.EvaluationCode.{EvaluationCode, symbol_at}
use Rattle.algebra.proofs.Ring.{pow_add, pow_mul}
use Rattle.algebra.proofs.Booleans.{and_left, and_right}
use Rattle.algebra.proofs.Polynomial.{poly_more, poly_scale}
use Rattle.algebra.proofs.Monomials.{terms, monomial_code, symbol_terms}
use Rattle.algebra.proofs.Blocks.{monic_power, monic_poly}
use Rattle.field.specs.Field.{q, plus, times, power}
use Rattle.field.proofs.Elem.{Elem, ring_of, field_of, pow_is, el, el_is}
use Rattle.field.proofs.Elements.{els}
use Rattle.code.specs.declared.Shape.{Shape}
use Rattle.code.specs.Shape.{size, room, whole, group}
use Rattle.code.specs.Basis.{exponent, whole_basis, short_basis, basis, degree}
use Rattle.code.specs.Codeword.{value_from, value, symbol}
use Rattle.code.specs.Laws.{Placed, Polynomial, OnGroup, Family}
use Rattle.code.proofs.Places.{whole_room}
use Rattle.code.proofs.Points.{locator, locator_is, locators_differ, locator_power, group_constant}
use Rattle.code.proofs.Codewords.{MessageIs}
use Rattle.code.proofs.Lawful.{polynomial_of, on_group_of, independent_of}

pub record ExponentsFit (s : Shape) : Type 0 where
  pub differ : (i j : ℕ) → i < s.k → j < s.k → exponent s i ≡ exponent s j → i ≡ j
  pub most : (m : ℕ) → m < s.k → exponent s m ≤ degree s
  pub in_block : (m : ℕ) → m < s.k → exponent s m % size s < s.r
  pub inside : degree s + s.tolerance < room s

pub basis_power : (s : Shape) (m x : ℕ) → whole s ≡ true → basis s m x ≡ power s.field x (exponent s m)
unfolding basis whole_basis
basis_power s m x w = ap (λ b. cond b (power s.field x (exponent s m)) (short_basis s m x)) w

module _ (s : Shape) (w : whole s ≡ true) where
  basis_el : (m : ℕ) (x : Elem s.field) → basis s m x.0 ≡ (pow (ring_of s.field) x (exponent s m)).0
  basis_el m x = basis_power s m x.0 w ∙ sym (pow_is s.field x (exponent s m))

  pub value_terms : (x : Elem s.field) (m : ℕ) (ys : List ℕ) → T (all_below (q s.field) ys)
      → (terms (ring_of s.field) (exponent s) x m (els s.field ys)).0 ≡ value_from s x.0 m ys
  unfolding terms value_from all_below
  value_terms x m [] t = refl
  value_terms x m (y ∷ ys) t =
      let f = s.field in
      ap₂ (plus f) (ap₂ (times f) (el_is f y (ltb→lt y (q f) (and_left (ltb y (q f)) (all_below (q f) ys) t))) (sym (basis_el m x)))
      (value_terms x (suc m) ys (and_right (ltb y (q f)) (all_below (q f) ys) t))

module _ (s : Shape) (P : Placed s) (w : whole s ≡ true) (E : ExponentsFit s) where
  abbrev f : ℕ
  f = s.field

  abbrev R : Ring
  R = ring_of s.field

  bounded : (m : ℕ) → m < s.k → Polynomial f (degree s + 1) (basis s m)
  bounded m h =
      polynomial_of f (degree s + 1) (λ x. pow R x (exponent s m)) (basis s m)
      (poly_more R (suc (exponent s m)) (degree s + 1) (omega (arith, E.most m h)) (monic_poly R (exponent s m) (λ x. pow R x (exponent s m)) (monic_power R (exponent s m))))
      (basis_el s w m)

  -- the code of these monomials' values
  code : EvaluationCode (field_of f) (room s) s.k (degree s)
  code = monomial_code (field_of f) (exponent s) (room s) s.k (degree s) (locator s) (locators_differ s P) E.differ E.most

  symbols : (xs : List ℕ) → MessageIs s xs → (p : ℕ) → (symbol_at code (els f xs) p).0 ≡ symbol s xs p
  unfolding code symbol value
  symbols xs M p =
      ap (λ x. x.0)
      (symbol_terms (field_of f) (exponent s) (room s) s.k (degree s) (locator s) (locators_differ s P) E.differ E.most (els f xs) p
      (length-map xs (el f) ∙ M.length_is))
      ∙ value_terms s w (locator s p) 0 xs M.below ∙ ap (λ x. value_from s x 0 xs) (locator_is s p)

  -- on group j the power size of X is known
  module _ (m j : ℕ) (h : m < s.k) where
    abbrev high : ℕ
    high = exponent s m / size s

    abbrev rest : ℕ
    rest = exponent s m % size s

    lowered : Elem f → Elem f
    lowered x = R.mul (pow R (group_constant s j) high) (pow R x rest)

    lowered_poly : Poly R s.r lowered
    unfolding lowered
    lowered_poly =
        poly_scale R s.r (pow R (group_constant s j) high)
        (poly_more R (suc rest) s.r (E.in_block m h) (monic_poly R rest (λ x. pow R x rest) (monic_power R rest)))

    lowered_is : (p : ℕ) → group s p ≡ j → pow R (locator s p) (exponent s m) ≡ lowered (locator s p)
    unfolding lowered
    lowered_is p g =
        let x = locator s p in
        ap (pow R x) (sym (div-add-mod' (exponent s m) (size s))) ∙ pow_add R x (high * size s) rest
        ∙ ap (λ y. R.mul y (pow R x rest))
        (ap (pow R x) (mul_comm high (size s)) ∙ sym (pow_mul R x (size s) high)
        ∙ ap (λ y. pow R y high) (locator_power s P p ∙ ap (group_constant s) g))

    local : OnGroup s j (basis s m)
    local =
        on_group_of s j lowered (basis s m) lowered_poly
        (λ p b g. ap (basis s m) (sym (locator_is s p)) ∙ basis_el s w m (locator s p) ∙ ap (λ y. y.0) (lowered_is p g))

  pub monomial : 1 ≤ s.k → s.k < s.n → Family s
  monomial k_least k_below =
      record {
        placed = P;
        k_least = k_least;
        k_below = k_below;
        degree_most = E.inside;
        bounded = bounded;
        independent = independent_of s code (omega (arith, E.inside)) symbols;
        zeros = λ m p h a b. absurd (omega (arith, whole_room s P w));
        local = λ m j h l. local m j h;
      }
