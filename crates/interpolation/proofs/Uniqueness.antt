-- What the settled polynomial is: it passes where nothing is left, and no other of as many coefficients passes. Assumes nothing.
--   nodes_differ    the points, as elements, differ
--   interpolated    the settled polynomial and the comparison answer as asked
use mathlib.Core.Path.{◌≡◌, sym, ap, ◌∙◌}
use mathlib.Core.Logic.{◌≢◌}
use mathlib.Core.Bool.{Bool}
use mathlib.Core.List.{List}
use Prim.Native.Nat.{ℕ, ◌≤◌, ◌<◌}
use native.Mathlib.Decide.{dec_lt}
use native.Mathlib.Omega.{arith}
use lib.Dec.{T}
use lib.ListN.{length}
use Rattle.algebra.specs.Sequence.{at, all_below}
use Rattle.algebra.proofs.Counting.{count_most}
use Rattle.algebra.proofs.Below.{all_below_any}
use Rattle.algebra.proofs.Ring.{add_cancel}
use Rattle.algebra.proofs.Coefficients.{front_value, value_same, value_short, unique_counted}
use Rattle.field.specs.Field.{q, plus}
use Rattle.field.specs.Polynomial.{poly}
use Rattle.field.proofs.Elem.{Elem, same, ring_of, field_of, el, el_is, zero_below, el_zero, zero_plus}
use Rattle.field.proofs.Elements.{el_at, poly_below, poly_value}
use Rattle.interpolation.specs.Interpolated.{masked, Passes, Interpolated}
use Rattle.interpolation.specs.Step.{kept, Nodes, Settled, Agreed}
use Rattle.interpolation.proofs.Marks.{masked_kept, kept_not_lost}

pub nodes_differ : (f n : ℕ) (xs : List ℕ) → Nodes f n xs → (i j : ℕ) → i < n → j < n → el f (at xs i) ≡ el f (at xs j) → i ≡ j
nodes_differ f n xs P i j h g e = P.differ i j h g (sym (el_is f (at xs i) (P.below i h)) ∙ ap (λ y. y.0) e ∙ el_is f (at xs j) (P.below j g))

module _ (f n most : ℕ) (xs ws ms us cs rs : List ℕ) (i : ℕ) (small : n ≤ 255) (P : Nodes f n xs)
    (W : (p : ℕ) → p < n → at us p ≡ masked (at ws p) (at ms p)) (S : Settled f n most xs us ms i cs rs) where
  wanted : (p : ℕ) → p < n → at ms p ≢ 1 → at us p ≡ at ws p
  wanted p h k = W p h ∙ masked_kept (at ws p) (at ms p) k

  through : ((p : ℕ) → i ≤ p → p < n → at ms p ≢ 1 → at rs p ≡ 0) → Passes f n xs ws ms cs
  through none p h k = go (dec_lt p i)
    where
      go : Dec (p < i) → poly f cs (at xs p) ≡ at ws p
      go (yes b) = S.passes p b k ∙ wanted p h k
      go (no b) =
          sym (zero_plus f (poly f cs (at xs p)) (poly_below f cs (at xs p)))
          ∙ ap (λ z. plus f z (poly f cs (at xs p))) (sym (none p (omega arith) h k)) ∙ S.left p (omega arith) h ∙ wanted p h k

  most_small : most ≤ 256
  most_small = omega (arith, S.taken, S.inside, count_most (kept ms) i)

  module _ (ds : List ℕ) (t : T (all_below (q f) ds)) (l : length ds ≡ most) (D : Passes f n xs ws ms ds) where
    ds_below : (m : ℕ) → at ds m < q f
    ds_below = all_below_any (q f) ds (zero_below f) t

    ds_value : (x : ℕ) (h : x < q f) → poly f ds x ≡ (front_value (ring_of f) (el_at f ds) most (x, h)).0
    ds_value x h = poly_value f ds most x h (omega arith) ds_below

    cs_value : (x : ℕ) (h : x < q f) → poly f cs x ≡ (front_value (ring_of f) (el_at f cs) most (x, h)).0
    cs_value x h =
        poly_value f cs 256 x h (omega (arith, S.size)) S.below
        ∙ ap (λ y. y.0) (value_short (ring_of f) (el_at f cs) most 256 (x, h) most_small (λ m b k. ap (el f) (S.few m b) ∙ el_zero f))

    agree : (p : ℕ) → p < i → T (kept ms p)
        → front_value (ring_of f) (el_at f ds) most (el f (at xs p)) ≡ front_value (ring_of f) (el_at f cs) most (el f (at xs p))
    agree p h k =
        let b : p < n = omega (arith, S.inside) in
        let x : Elem f = (at xs p, P.below p b) in
        let e : el f (at xs p) ≡ x = same f _ _ (el_is f (at xs p) (P.below p b)) in
        let a : at ms p ≢ 1 = kept_not_lost ms p k in
        rw e (same f _ _ (sym (ds_value (at xs p) (P.below p b)) ∙ D p b a ∙ sym (wanted p b a) ∙ sym (S.passes p h a) ∙ cs_value (at xs p) (P.below p b)))

    equal_coefs : (m : ℕ) → m < most → el_at f ds m ≡ el_at f cs m
    equal_coefs =
        unique_counted (field_of f) (λ p. el f (at xs p)) (kept ms) i (el_at f ds) (el_at f cs) most
        (λ a b h g e. nodes_differ f n xs P a b (omega (arith, S.inside)) (omega (arith, S.inside)) e)
        agree (omega (arith, S.taken))

    equal : (m : ℕ) → m < most → at ds m ≡ at cs m
    equal m h = sym (el_is f (at ds m) (ds_below m)) ∙ ap (λ y. y.0) (equal_coefs m h) ∙ el_is f (at cs m) (S.below m)

    equal_values : (x : ℕ) → x < q f → poly f ds x ≡ poly f cs x
    equal_values x h = ds_value x h ∙ ap (λ y. y.0) (value_same (ring_of f) (el_at f ds) (el_at f cs) most (x, h) equal_coefs) ∙ sym (cs_value x h)

    none_left : (p : ℕ) → i ≤ p → p < n → at ms p ≢ 1 → at rs p ≡ 0
    none_left p b h k =
        ap (λ y. y.0)
        (add_cancel (ring_of f) (at rs p, S.rs_below p b h) (ring_of f).nil (poly f cs (at xs p), poly_below f cs (at xs p))
        (same f _ _ (S.left p b h ∙ wanted p h k ∙ sym (D p h k) ∙ equal_values (at xs p) (P.below p h)
        ∙ sym (zero_plus f (poly f cs (at xs p)) (poly_below f cs (at xs p))))))

  pub interpolated : (r : Bool) → Agreed n ms i rs r → Interpolated f n most xs ws ms cs r
  interpolated r A =
      record {
        below = S.below;
        few = S.few;
        through = λ e. through (A.none e);
        only = λ ds t l D. (A.agree (none_left ds t l D), equal ds t l D);
      }
