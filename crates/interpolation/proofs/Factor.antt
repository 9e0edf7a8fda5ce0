-- A polynomial of degree c in a row, times X - y. Assumes nothing.
--   sum_zero                                                 0 plus a multiple of 0
--   factor_first, factor_next                                the coefficients of the product
--   factor_below, factor_few, factor_top, factor_value       they are elements, few, and the leading one stays; the value at a point
--   factor_here, factor_there                                y is a root, and the roots that were stay
use mathlib.Core.Path.{◌≡◌, sym, ap, ap₂, ◌∙◌}
use mathlib.Core.List.{List}
use Prim.Native.Nat.{ℕ, zero, suc, ◌+◌, ◌<◌}
use native.Mathlib.Numerals.{add-one}
use native.Mathlib.Decide.{dec_lt}
use native.Mathlib.Omega.{arith}
use lib.ListN.{length}
use Rattle.algebra.specs.Sequence.{at}
use Rattle.algebra.proofs.Ring.{sub_self}
use Rattle.field.specs.Field.{q, plus, minus, times}
use Rattle.field.specs.Polynomial.{poly}
use Rattle.field.proofs.Laws.{laws}
use Rattle.field.proofs.Elem.{ring_of, zero_below, times_zero, zero_times, zero_plus, plus_times_zero}
use Rattle.field.proofs.Elements.{poly_below}
use Rattle.field.proofs.Values.{poly_times_linear}
use Rattle.interpolation.specs.Step.{Multiplied}

pub sum_zero : (f j a b : ℕ) → j < q f → a ≡ 0 → b ≡ 0 → plus f a (times f j b) ≡ 0
sum_zero f j a b h p r = ap₂ (λ x z. plus f x (times f j z)) p r ∙ plus_times_zero f 0 j (zero_below f) h

module _ (f c y w : ℕ) (ns ns' : List ℕ) (wide : c + 1 < w) (y_below : y < q f) (size : length ns ≡ 256)
    (below : (m : ℕ) → at ns m < q f) (few : (m : ℕ) → c < m → at ns m ≡ 0) (D : Multiplied f (minus f 0 y) w ns ns') where
  factor_first : at ns' 0 ≡ times f (minus f 0 y) (at ns 0)
  factor_first = D.first (omega arith) ∙ zero_plus f _ ((laws f).times_below (minus f 0 y) (at ns 0))

  factor_next : (m : ℕ) → at ns' (suc m) ≡ plus f (at ns m) (times f (minus f 0 y) (at ns (suc m)))
  factor_next m = go (dec_lt (suc m) w)
    where
      go : Dec (suc m < w) → at ns' (suc m) ≡ plus f (at ns m) (times f (minus f 0 y) (at ns (suc m)))
      go (yes b) = D.next m b
      go (no b) =
          D.behind (suc m) (omega arith) ∙ few (suc m) (omega arith)
          ∙ sym (sum_zero f (minus f 0 y) (at ns m) (at ns (suc m)) ((laws f).minus_below 0 y) (few m (omega arith)) (few (suc m) (omega arith)))

  pub factor_below : (m : ℕ) → at ns' m < q f
  factor_below zero = rw factor_first ((laws f).times_below (minus f 0 y) (at ns 0))
  factor_below (suc m) = rw (factor_next m) ((laws f).plus_below (at ns m) (times f (minus f 0 y) (at ns (suc m))))

  pub factor_few : (m : ℕ) → c + 1 < m → at ns' m ≡ 0
  factor_few zero b = absurd (omega arith)
  factor_few (suc m) b =
      factor_next m ∙ sum_zero f (minus f 0 y) (at ns m) (at ns (suc m)) ((laws f).minus_below 0 y) (few m (omega arith)) (few (suc m) (omega arith))

  pub factor_top : at ns' (c + 1) ≡ at ns c
  factor_top =
      ap (at ns') (add-one c) ∙ factor_next c ∙ ap (λ x. plus f (at ns c) (times f (minus f 0 y) x)) (few (suc c) (omega arith))
      ∙ plus_times_zero f (at ns c) (minus f 0 y) (below c) ((laws f).minus_below 0 y)

  pub factor_value : (x : ℕ) → x < q f → poly f ns' x ≡ times f (minus f x y) (poly f ns x)
  factor_value x h = poly_times_linear f 256 y x y_below h ns' ns (D.size ∙ size) size factor_below below factor_first factor_next

  pub factor_here : poly f ns' y ≡ 0
  factor_here =
      factor_value y y_below ∙ ap (λ x. times f x (poly f ns y)) (ap (λ x. x.0) (sub_self (ring_of f) (y, y_below)))
      ∙ zero_times f (poly f ns y) (poly_below f ns y)

  pub factor_there : (x : ℕ) → x < q f → poly f ns x ≡ 0 → poly f ns' x ≡ 0
  factor_there x h e = factor_value x h ∙ ap (times f (minus f x y)) e ∙ times_zero f (minus f x y) ((laws f).minus_below x y)
