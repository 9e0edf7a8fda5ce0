-- The coefficients of a message's encoding polynomial, whole groups: its symbols at the exponents, 0 between them. Assumes nothing.
--   coefficients s xs        == these coefficients, degree + 1 of them
--   length_coefficients, coefficients_below, coefficients_value    the values at the places' points are the symbols
--   Place s e, place         up to the degree, e is an exponent, or one of the last tolerance of its block
--   coefficient_at, coefficient_gap
use mathlib.Core.Path.{◌≡◌, sym, ap, ap₂, ◌∙◌}
use mathlib.Core.Logic.{◌≢◌}
use mathlib.Core.Bool.{true}
use mathlib.Core.List.{List}
use Prim.Native.Nat.{ℕ, suc, ◌+◌, ◌*◌, ◌-◌, ◌/◌, ◌%◌, ◌≤◌, ◌<◌}
use native.Mathlib.Nat.{div-add-mod', mod-lt, zero-add}
use native.Mathlib.Decide.{dec_lt}
use native.Mathlib.Omega.{arith}
use lib.Arith.{digits_div, digits_mod}
use lib.Dec.{T, eqb→eq}
use lib.ListN.{length, length-map, get_or-map}
use Rattle.algebra.specs.Sequence.{at, tabulate, all_below}
use Rattle.algebra.proofs.Booleans.{so}
use Rattle.algebra.proofs.Tabulate.{length_tabulate, at_tabulate}
use Rattle.algebra.proofs.Monomials.{spread, spread_at, spread_out, eval_spread}
use Rattle.algebra.proofs.Locality.{raised}
use Rattle.field.specs.Field.{q}
use Rattle.field.specs.Polynomial.{poly}
use Rattle.field.proofs.Elem.{Elem, ring_of, el}
use Rattle.field.proofs.Elements.{els, nums, nums_els, nums_below, poly_nums}
use Rattle.code.specs.declared.Shape.{Shape}
use Rattle.code.specs.Shape.{size, missing, whole, point}
use Rattle.code.specs.Basis.{exponent, degree}
use Rattle.code.specs.Codeword.{value_from, value, symbol}
use Rattle.code.specs.Laws.{Placed}
use Rattle.code.proofs.Points.{locator, locator_is}
use Rattle.code.proofs.Codewords.{MessageIs}
use Rattle.code.proofs.Monomial.{value_terms}
use Rattle.code.proofs.Grouped.{exponent_raised, exponent_injective, exponent_monotone, exponent_block}

abbrev coefficient : (s : Shape) → List ℕ → ℕ → Elem s.field
coefficient s xs e = spread (ring_of s.field) (exponent s) 0 (els s.field xs) e

unfoldable pub coefficients : Shape → List ℕ → List ℕ
coefficients s xs = nums s.field (tabulate (coefficient s xs) (suc (degree s)))

pub coefficients_below : (s : Shape) (xs : List ℕ) → T (all_below (q s.field) (coefficients s xs))
unfolding coefficients
coefficients_below s xs = nums_below s.field (tabulate (coefficient s xs) (suc (degree s)))

pub length_coefficients : (s : Shape) (xs : List ℕ) → length (coefficients s xs) ≡ suc (degree s)
unfolding coefficients
length_coefficients s xs =
    length-map (tabulate (coefficient s xs) (suc (degree s))) (λ x. x.0) ∙ length_tabulate (coefficient s xs) (suc (degree s))

at_coefficients : (s : Shape) (xs : List ℕ) (e : ℕ) → e ≤ degree s → at (coefficients s xs) e ≡ (coefficient s xs e).0
unfolding coefficients
at_coefficients s xs e h =
    let z = (ring_of s.field).nil in
    get_or-map (λ x. x.0) (tabulate (coefficient s xs) (suc (degree s))) e z
    ∙ ap (λ x. x.0) (at_tabulate (coefficient s xs) z (suc (degree s)) e (omega arith))

pub data Place (s : Shape) (e : ℕ) : Type 0 where
  taken : (m : ℕ) → m < s.k → exponent s m ≡ e → Place s e
  gap : s.r ≤ e % size s → Place s e

module _ (s : Shape) (P : Placed s) (none : s.second ≡ 0) (w : whole s ≡ true) (k_least : 1 ≤ s.k) where
  abbrev last : ℕ
  last = s.k + missing s - 1

  pub place : (e : ℕ) → e ≤ degree s → Place s e
  unfolding degree raised whole
  place e h = go (dec_lt (e % size s) s.r)
    where
      raise : e % size s < s.r → exponent s (e / size s * s.r + e % size s) ≡ e
      raise l =
          exponent_raised s none (e / size s * s.r + e % size s)
          ∙ ap₂ (λ a b. a * size s + b) (digits_div (e / size s) l) (digits_mod (e / size s) l) ∙ div-add-mod' e (size s)

      none_behind : missing s ≡ 0
      none_behind = eqb→eq (missing s) 0 (so w)

      below : (m : ℕ) → exponent s m ≡ e → Dec (m < s.k) → m < s.k
      below m p (yes b) = b
      below m p (no b) =
          let z : last ≡ m = exponent_injective s P none last m (omega (arith, exponent_monotone s P none last m (omega (arith, none_behind)))) in
          absurd (omega (arith, none_behind))

      go : Dec (e % size s < s.r) → Place s e
      go (yes l) = let m : ℕ = e / size s * s.r + e % size s in taken m (below m (raise l) (dec_lt m s.k)) (raise l)
      go (no l) = gap (omega arith)

  apart : (m e : ℕ) → s.r ≤ e % size s → exponent s m ≢ e
  apart m e h p = omega (arith, exponent_block s P none m, ap (λ n. n % size s) p, mod-lt m P.r_least)

  module _ (xs : List ℕ) (M : MessageIs s xs) where
    length_els : length (els s.field xs) ≡ s.k
    length_els = length-map xs (el s.field) ∙ M.length_is

    exponent_most : (m : ℕ) → m < s.k → exponent s m ≤ degree s
    unfolding degree
    exponent_most m h = exponent_monotone s P none m last (omega arith)

    pub coefficients_value : (p : ℕ) → poly s.field (coefficients s xs) (point s p) ≡ symbol s xs p
    unfolding coefficients tabulate symbol value
    coefficients_value p =
        let f = s.field in
        ap (poly f (coefficients s xs)) (sym (locator_is s p)) ∙ poly_nums f (tabulate (coefficient s xs) (suc (degree s))) (locator s p)
        ∙ ap (λ x. x.0) (eval_spread (ring_of f) (exponent s) (locator s p) (suc (degree s)) 0 (els f xs)
        (λ m a b. omega (arith, length_els, exponent_most m (omega (arith, length_els)))))
        ∙ value_terms s w (locator s p) 0 xs M.below ∙ ap (λ x. value_from s x 0 xs) (locator_is s p)

    pub coefficient_at : (m : ℕ) → m < s.k → at (coefficients s xs) (exponent s m) ≡ at xs m
    coefficient_at m h =
        at_coefficients s xs (exponent s m) (exponent_most m h)
        ∙ ap (λ n. (coefficient s xs (exponent s n)).0) (sym (zero-add m))
        ∙ ap (λ x. x.0) (spread_at (ring_of s.field) (exponent s) (exponent_injective s P none) 0 (els s.field xs) m (omega (arith, length_els)))
        ∙ sym (get_or-map (λ x. x.0) (els s.field xs) m (ring_of s.field).nil) ∙ ap (λ l. at l m) (nums_els s.field xs M.below)

    pub coefficient_gap : (e : ℕ) → e ≤ degree s → s.r ≤ e % size s → at (coefficients s xs) e ≡ 0
    coefficient_gap e h l =
        at_coefficients s xs e h
        ∙ ap (λ x. x.0) (spread_out (ring_of s.field) (exponent s) 0 (els s.field xs) e (λ m a b. apart m e l))
