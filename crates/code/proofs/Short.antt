-- A short last group: the code of whole groups with k + missing symbols, less what is not 0 behind the slots. Assumes nothing.
--   shift s b m     == the symbol of the code of whole groups that has the degree of basis polynomial m
--   short           such a shape is a family
use mathlib.Core.Path.{◌≡◌, refl, sym, ap, ap₂, ◌∙◌}
use mathlib.Core.Bool.{Bool, true, false, cond}
use mathlib.Core.List.{List}
use Prim.Native.Nat.{ℕ, suc, ◌+◌, ◌*◌, ◌-◌, ◌/◌, ◌%◌, ◌≤◌, ◌<◌}
use native.Mathlib.Nat.{add-div_right, add-mod_right, div-eq_of_lt, mod-eq_of_lt, mod-lt, mul-le-mul_right}
use native.Mathlib.Decide.{dec_lt}
use native.Mathlib.Omega.{arith}
use lib.Dec.{ltb, ltb→lt, lt→ltb}
use Rattle.algebra.specs.Ring.{Ring, pow}
use Rattle.algebra.specs.Polynomial.{Poly}
use Rattle.algebra.specs.EvaluationCode.{EvaluationCode, symbol_at}
use Rattle.algebra.proofs.Ring.{sub_self, nil_mul}
use Rattle.algebra.proofs.Booleans.{so}
use Rattle.algebra.proofs.Polynomial.{poly_more, poly_scale}
use Rattle.algebra.proofs.Triangular.{triangular_code, symbol_triangular}
use Rattle.algebra.proofs.Monic.{Monic}
use Rattle.algebra.proofs.Blocks.{monic_power, monic_poly}
use Rattle.algebra.proofs.Locality.{raised}
use Rattle.field.proofs.Elem.{Elem, ring_of, field_of}
use Rattle.field.proofs.Elements.{els}
use Rattle.code.specs.declared.Shape.{Shape}
use Rattle.code.specs.Shape.{size, groups, room, missing, whole, group, point}
use Rattle.code.specs.Basis.{exponent, lead, whole_basis, short_basis, basis, degree}
use Rattle.code.specs.Codeword.{value_from, value, symbol}
use Rattle.code.specs.Laws.{Placed, Polynomial, OnGroup, Family}
use Rattle.code.proofs.Places.{groups_least, group_last}
use Rattle.code.proofs.Bounds.{lead_parts}
use Rattle.code.proofs.Points.{locator, locator_is, locators_differ, group_constant}
use Rattle.code.proofs.Codewords.{MessageIs}
use Rattle.code.proofs.Sums.{sums_value}
use Rattle.code.proofs.Lawful.{polynomial_of, on_group_of, independent_of}
use Rattle.code.proofs.Grouped.{exponent_raised, exponent_injective, exponent_monotone, degree_inside}
use Rattle.code.proofs.ShortBasis.{last_constant, goods, part, part_degree, part_is, monic_part, goods_on_group, vanish_behind}

-- a number that is not below another
not_below : (m n : ℕ) → ltb m n ≡ false → n ≤ m
not_below m n e = go (dec_lt m n)
  where
    go : Dec (m < n) → n ≤ m
    go (yes h) = absurd (rw e at (lt→ltb m n h))
    go (no h) = omega arith

pub shift : Shape → Bool → ℕ → ℕ
shift s true m = m + s.r
shift s false m = missing s + (m - lead s)

module _ (s : Shape) (P : Placed s) (none : s.second ≡ 0) (broken : whole s ≡ false) (k_least : 1 ≤ s.k)
    (k_most : s.k + s.tolerance * groups s ≤ s.n) (k_last : s.r ≤ s.k + missing s) where
  abbrev f : ℕ
  f = s.field

  abbrev R : Ring
  R = ring_of s.field

  abbrev last : ℕ
  last = s.k + missing s - 1

  -- is m one of the first, those with blocks?
  abbrev first : ℕ → Bool
  first m = ltb m (lead s)

  lead_is : lead s + s.r ≡ s.k + missing s
  lead_is = lead_parts s k_last

  rest_low : (m : ℕ) → m < s.k → first m ≡ false → missing s + (m - lead s) < s.r
  rest_low m h e = omega (arith, lead_is, not_below m (lead s) e)

  shift_most : (m : ℕ) → m < s.k → (b : Bool) → first m ≡ b → shift s b m ≤ last
  unfolding shift
  shift_most m h true e = omega (arith, lead_is, ltb→lt m (lead s) (so e))
  shift_most m h false e = omega (arith, rest_low m h e)

  shift_injective : (i j : ℕ) → i < s.k → j < s.k → (b c : Bool) → first i ≡ b → first j ≡ c → shift s b i ≡ shift s c j → i ≡ j
  unfolding shift
  shift_injective i j h l true true d e p = omega arith
  shift_injective i j h l true false d e p = absurd (omega (arith, rest_low j l e))
  shift_injective i j h l false true d e p = absurd (omega (arith, rest_low i h d))
  shift_injective i j h l false false d e p = omega (arith, not_below i (lead s) d, not_below j (lead s) e)

  degree_shift : (m : ℕ) → m < s.k → (b : Bool) → first m ≡ b → part_degree s b m ≡ exponent s (shift s b m)
  unfolding shift raised part_degree
  degree_shift m h true e =
      let a : 1 + m / s.r ≡ (m + s.r) / s.r = sym (add-div_right m P.r_least ∙ omega arith) in
      ap₂ (λ x y. x * size s + y) a (sym (add-mod_right m s.r)) ∙ sym (exponent_raised s none (m + s.r))
  degree_shift m h false e =
      let t : ℕ = missing s + (m - lead s) in
      let b : t < s.r = rest_low m h e in
      let z : t / s.r * size s ≡ 0 = ap (λ n. n * size s) (div-eq_of_lt b) ∙ omega arith in
      sym (exponent_raised s none t ∙ omega (arith, z, mod-eq_of_lt b))

  -- degree, by which a polynomial m is
  abbrev deg : ℕ → ℕ
  deg m = part_degree s (first m) m

  deg_is : (m : ℕ) → m < s.k → deg m ≡ exponent s (shift s (first m) m)
  deg_is m h = degree_shift m h (first m) refl

  deg_most : (m : ℕ) → m < s.k → deg m ≤ degree s
  unfolding degree
  deg_most m h =
      omega (arith, deg_is m h, exponent_monotone s P none (shift s (first m) m) last (shift_most m h (first m) refl))

  deg_apart : (i j : ℕ) → i < s.k → j < s.k → deg i ≡ deg j → i ≡ j
  deg_apart i j h l e =
      shift_injective i j h l (first i) (first j) refl refl
      (exponent_injective s P none (shift s (first i) i) (shift s (first j) j) (sym (deg_is i h) ∙ e ∙ deg_is j l))

  -- the polynomials
  monic : (m : ℕ) → Monic R (deg m) (part s (first m) m)
  monic m = monic_part s P (first m) m

  basis_el : (m : ℕ) (x : Elem f) → basis s m x.0 ≡ (part s (first m) m x).0
  unfolding basis
  basis_el m x = ap (λ b. cond b (whole_basis s m x.0) (short_basis s m x.0)) broken ∙ part_is s m x

  bounded : (m : ℕ) → m < s.k → Polynomial f (degree s + 1) (basis s m)
  bounded m h =
      polynomial_of f (degree s + 1) (part s (first m) m) (basis s m)
      (poly_more R (suc (deg m)) (degree s + 1) (omega (arith, deg_most m h)) (monic_poly R (deg m) (part s (first m) m) (monic m))) (basis_el m)

  code : EvaluationCode (field_of f) (room s) s.k (degree s)
  code =
      triangular_code (field_of f) (λ m. (monic m).low.co) deg (room s) s.k (degree s) (locator s) (locators_differ s P) deg_apart deg_most
      (λ m h. (monic m).leading) (λ m j h l. (monic m).low.above j l)

  symbols : (xs : List ℕ) → MessageIs s xs → (p : ℕ) → (symbol_at code (els f xs) p).0 ≡ symbol s xs p
  unfolding code symbol value
  symbols xs M p =
      ap (λ x. x.0)
      (symbol_triangular (field_of f) (λ m. (monic m).low.co) deg (room s) s.k (degree s) (locator s) (locators_differ s P) deg_apart deg_most
      (λ m h. (monic m).leading) (λ m j h l. (monic m).low.above j l) (els f xs) p)
      ∙ sums_value s (λ m. (monic m).low.co) (suc (degree s)) (locator s p)
      (λ m h. ap (λ y. y.0) (sym ((monic m).low.is (locator s p) (suc (degree s)) (omega (arith, deg_most m h)))) ∙ sym (basis_el m (locator s p)))
      0 xs (omega (arith, M.length_is)) M.below
      ∙ ap (λ x. value_from s x 0 xs) (locator_is s p)

  -- on a group
  module _ (j : ℕ) where
    abbrev level : Elem f
    level = R.sub (group_constant s j) (last_constant s)

    lowered : (m : ℕ) → Bool → Elem f → Elem f
    lowered m true x = R.mul (pow R level (1 + m / s.r)) (pow R x (m % s.r))
    lowered m false x = part s false m x

    lowered_poly : (m : ℕ) → m < s.k → (b : Bool) → first m ≡ b → Poly R s.r (lowered m b)
    unfolding lowered part_degree
    lowered_poly m h true e =
        poly_scale R s.r (pow R level (1 + m / s.r))
        (poly_more R (suc (m % s.r)) s.r (mod-lt m P.r_least) (monic_poly R (m % s.r) (λ x. pow R x (m % s.r)) (monic_power R (m % s.r))))
    lowered_poly m h false e =
        poly_more R (suc (part_degree s false m)) s.r (omega (arith, rest_low m h e))
        (monic_poly R (part_degree s false m) (part s false m) (monic_part s P false m))

    lowered_is : (m : ℕ) (b : Bool) (p : ℕ) → group s p ≡ j → part s b m (locator s p) ≡ lowered m b (locator s p)
    unfolding lowered part
    lowered_is m true p g = ap (λ y. R.mul (pow R y (1 + m / s.r)) (pow R (locator s p) (m % s.r))) (goods_on_group s P j p g)
    lowered_is m false p g = refl

    local : (m : ℕ) → m < s.k → OnGroup s j (basis s m)
    local m h =
        on_group_of s j (lowered m (first m)) (basis s m) (lowered_poly m h (first m) refl)
        (λ p b g. ap (basis s m) (sym (locator_is s p)) ∙ basis_el m (locator s p) ∙ ap (λ y. y.0) (lowered_is m (first m) p g))

  -- behind the slots
  module _ (p : ℕ) (h : s.n ≤ p) (l : p < room s) where
    goods_none : goods s (locator s p) ≡ R.nil
    goods_none = goods_on_group s P (groups s - 1) p (group_last s P broken p h l) ∙ sub_self R (last_constant s)

    part_none : (m : ℕ) (b : Bool) → part s b m (locator s p) ≡ R.nil
    unfolding part pow
    part_none m true =
        let e : 1 + m / s.r ≡ suc (m / s.r) = omega arith in
        let y = pow R (locator s p) (m % s.r) in
        ap₂ (λ x n. R.mul (pow R x n) y) goods_none e ∙ ap (λ x. R.mul x y) (nil_mul R (pow R R.nil (m / s.r))) ∙ nil_mul R y
    part_none m false = let y = pow R (locator s p) (m - lead s) in ap (λ x. R.mul x y) (vanish_behind s P p h l) ∙ nil_mul R y

    zeros : (m : ℕ) → basis s m (point s p) ≡ 0
    zeros m = ap (basis s m) (sym (locator_is s p)) ∙ basis_el m (locator s p) ∙ ap (λ y. y.0) (part_none m (first m))

  pub short : Family s
  short =
      record {
        placed = P;
        k_least = k_least;
        k_below = omega (arith, k_most, mul-le-mul_right (groups s) P.tolerance_least, groups_least s P);
        degree_most = degree_inside s P none k_least k_most;
        bounded = bounded;
        independent = independent_of s code (omega (arith, degree_inside s P none k_least k_most)) symbols;
        zeros = λ m p h a b. zeros p a b m;
        local = λ m j h l. local j m h;
      }
