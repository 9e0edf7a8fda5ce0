-- Rows of l coefficients, and the values of their polynomials. Assumes nothing.
--   poly_add_scaled       the value of cs + k ds
--   poly_times_linear     the value of X ns + (0 - y) ns
--   poly_zeros, poly_ext  polynomials whose coefficients are 0, or the same and 0 past their lists, have the values 0, or the same
--   el_scaled             a + k b as an element
use mathlib.Core.Path.{◌≡◌, refl, sym, ap, ap₂, ◌∙◌}
use mathlib.Core.List.{List, [], ◌∷◌}
use Prim.Native.Nat.{ℕ, suc, ◌<◌}
use native.Mathlib.Omega.{arith}
use lib.ListN.{length}
use Rattle.algebra.specs.Sequence.{at}
use Rattle.algebra.proofs.Coefficients.{value_add_scaled, value_linear}
use Rattle.algebra.proofs.Newton.{factor_value}
use Rattle.field.specs.Field.{q, plus, minus, times}
use Rattle.field.specs.Polynomial.{poly}
use Rattle.field.proofs.Laws.{laws}
use Rattle.field.proofs.Elem.{Elem, same, ring_of, el, el_is, zero_below, plus_times_zero}
use Rattle.field.proofs.Elements.{el_at, poly_below, poly_value}

pub el_scaled : (f : ℕ) (k : Elem f) (a b c : ℕ) → a < q f → b < q f → c ≡ plus f a (times f k.0 b)
    → el f c ≡ (ring_of f).add (el f a) ((ring_of f).mul k (el f b))
el_scaled f k a b c ha hb e =
    same f _ _
    (el_is f c (rw e ((laws f).plus_below a (times f k.0 b))) ∙ e ∙ ap₂ (λ u v. plus f u (times f k.0 v)) (sym (el_is f a ha)) (sym (el_is f b hb)))

module _ (f l : ℕ) where
  module _ (k x : ℕ) (hk : k < q f) (hx : x < q f) where
    pub poly_add_scaled : (zs cs ds : List ℕ) → length zs ≡ l → length cs ≡ l → length ds ≡ l
        → ((m : ℕ) → at cs m < q f) → ((m : ℕ) → at ds m < q f) → ((m : ℕ) → at zs m ≡ plus f (at cs m) (times f k (at ds m)))
        → poly f zs x ≡ plus f (poly f cs x) (times f k (poly f ds x))
    poly_add_scaled zs cs ds lz lc ld bc bd e =
        poly_value f zs l x hx (omega arith) (λ m. rw (e m) ((laws f).plus_below (at cs m) (times f k (at ds m))))
        ∙ ap (λ y. y.0)
        (value_add_scaled (ring_of f) (el_at f zs) (el_at f cs) (el_at f ds) (k, hk) l (x, hx) (λ m h. el_scaled f (k, hk) (at cs m) (at ds m) (at zs m) (bc m) (bd m) (e m)))
        ∙ ap₂ (λ u v. plus f u (times f k v)) (sym (poly_value f cs l x hx (omega arith) bc)) (sym (poly_value f ds l x hx (omega arith) bd))

    -- X ns + k ns
    poly_shifted : (zs ns : List ℕ) → length zs ≡ l → length ns ≡ l → ((m : ℕ) → at zs m < q f) → ((m : ℕ) → at ns m < q f)
        → at zs 0 ≡ times f k (at ns 0) → ((m : ℕ) → at zs (suc m) ≡ plus f (at ns m) (times f k (at ns (suc m))))
        → poly f zs x ≡ plus f (times f x (poly f ns x)) (times f k (poly f ns x))
    poly_shifted zs ns lz ln bz bn e h =
        poly_value f zs (suc l) x hx (omega arith) bz
        ∙ ap (λ y. y.0)
        (value_linear (ring_of f) (el_at f zs) (el_at f ns) (k, hk) l (x, hx)
        (same f _ _ (el_is f (at zs 0) (bz 0) ∙ e ∙ ap (times f k) (sym (el_is f (at ns 0) (bn 0)))))
        (λ m b. el_scaled f (k, hk) (at ns m) (at ns (suc m)) (at zs (suc m)) (bn m) (bn (suc m)) (h m)))
        ∙ ap₂ (λ u v. plus f (times f x u) (times f k v)) (sym (poly_value f ns l x hx (omega arith) bn)) (sym (poly_value f ns (suc l) x hx (omega arith) bn))

  pub poly_times_linear : (y x : ℕ) → y < q f → x < q f → (zs ns : List ℕ) → length zs ≡ l → length ns ≡ l
      → ((m : ℕ) → at zs m < q f) → ((m : ℕ) → at ns m < q f) → at zs 0 ≡ times f (minus f 0 y) (at ns 0)
      → ((m : ℕ) → at zs (suc m) ≡ plus f (at ns m) (times f (minus f 0 y) (at ns (suc m))))
      → poly f zs x ≡ times f (minus f x y) (poly f ns x)
  poly_times_linear y x hy hx zs ns lz ln bz bn e h =
      poly_shifted (minus f 0 y) x ((laws f).minus_below 0 y) hx zs ns lz ln bz bn e h
      ∙ ap (λ z. z.0) (factor_value (ring_of f) (x, hx) (y, hy) (poly f ns x, poly_below f ns x))

pub poly_zeros : (f : ℕ) (cs : List ℕ) (x : ℕ) → x < q f → ((m : ℕ) → at cs m ≡ 0) → poly f cs x ≡ 0
unfolding poly
poly_zeros f [] x h e = refl
poly_zeros f (c ∷ cs) x h e =
    ap₂ (λ a b. plus f a (times f x b)) (e 0) (poly_zeros f cs x h (λ m. e (suc m))) ∙ plus_times_zero f 0 x (zero_below f) h

pub poly_ext : (f : ℕ) (cs ds : List ℕ) (x : ℕ) → x < q f → ((m : ℕ) → at cs m ≡ at ds m) → poly f cs x ≡ poly f ds x
unfolding poly
poly_ext f [] ds x h e = sym (poly_zeros f ds x h (λ m. sym (e m)))
poly_ext f (c ∷ cs) [] x h e = poly_zeros f (c ∷ cs) x h e
poly_ext f (c ∷ cs) (d ∷ ds) x h e = ap₂ (λ a b. plus f a (times f x b)) (e 0) (poly_ext f cs ds x h (λ m. e (suc m)))
