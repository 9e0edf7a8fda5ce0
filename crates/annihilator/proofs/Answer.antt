-- From the solved equations of the gaps to the answer. Assumes nothing.
--   cofactors       the equations of all gaps, and how many solutions they have
--   fewer           fewer gaps than coefficients: a product with no coefficient there, of a polynomial that is not 0
--   annihilated     the cofactors of the product over the kept places tell the answer; annihilated_fewer with fewer gaps
use mathlib.Core.Path.{◌≡◌, sym, ap, ◌∙◌}
use mathlib.Core.Logic.{◌≢◌, ◌⊎◌, inl, inr}
use mathlib.Core.Bool.{Bool, true, false}
use mathlib.Core.List.{List}
use Prim.Native.Nat.{ℕ, suc, ◌+◌, ◌*◌, ◌≤◌, ◌<◌}
use native.Mathlib.Decide.{dec_lt}
use native.Mathlib.Omega.{arith}
use lib.Dec.{T}
use lib.ListN.{replicate}
use Rattle.algebra.specs.Sequence.{at, count}
use Rattle.algebra.proofs.Booleans.{so, yes_true}
use Rattle.algebra.proofs.Counting.{count_most}
use Rattle.algebra.proofs.At.{at_past, at_zeros}
use Rattle.algebra.proofs.Below.{all_below_any}
use Rattle.algebra.proofs.Coefficients.{front_value, value_same}
use Rattle.algebra.proofs.Parity.{dot_none}
use Rattle.algebra.proofs.Highest.{Highest, highest, AllNil}
use Rattle.algebra.proofs.Underdetermined.{Nontrivial, underdetermined}
use Rattle.algebra.proofs.Multiples.{lift, multiple, Leads, multiple_root, multiple_highest, quotient, factored}
use Rattle.field.specs.Field.{q}
use Rattle.field.specs.Polynomial.{poly}
use Rattle.field.proofs.Elem.{Elem, same, ring_of, field_of, el, el_is, el_zero, zero_of, zero_below, one_not_zero}
use Rattle.field.proofs.Elements.{el_at, listed, length_listed, at_listed, listed_below, el_at_listed, poly_value}
use Rattle.interpolation.specs.Step.{kept, Nodes}
use Rattle.interpolation.proofs.Marks.{kept_not_lost}
use Rattle.interpolation.proofs.Uniqueness.{nodes_differ}
use Rattle.linear.specs.System.{Vector, Finished, one, more}
use Rattle.linear.proofs.Elements.{vector_below, vector_ext, listed_vector}
use Rattle.annihilator.specs.Annihilator.{Annihilates, Annihilated, none, some}
use Rattle.annihilator.specs.Step.{Vanishes, Clear, Gathered, Cofactors, none as only, some as other}
use Rattle.annihilator.proofs.Places.{leads, root, Product, product_of}
use Rattle.annihilator.proofs.Gaps.{product_is, product_listed, zeros_vector, zeros_clear}

-- how many solutions
module _ (f t size r gaps : ℕ) (zs : List ℕ) (small : (m : ℕ) → at zs m < q f) where
  unless_nil : (us : List ℕ) → Vector f t us → Clear f t size r gaps zs us → AllNil (ring_of f) t (el_at f us) ⊎ Cofactors f t size r gaps zs false
  unless_nil us v o = go (highest (ring_of f) t (el_at f us))
    where
      go : AllNil (ring_of f) t (el_at f us) ⊎ Highest (ring_of f) t (el_at f us) → AllNil (ring_of f) t (el_at f us) ⊎ Cofactors f t size r gaps zs false
      go (inl z) = inl z
      go (inr H) = inr (other us H.j v o H.inside (λ e. H.some (ap (el f) e ∙ el_zero f)))

  pub cofactors : (b before after : List ℕ) (x : Bool) → Gathered f t size r zs gaps b → Finished f t b before after x → Cofactors f t size r gaps zs x
  cofactors b before after true G (one v s u) =
      only (λ us w o m h.
      ap (λ l. at l m) (u us w (G.solve us w o) ∙ sym (u (replicate t 0) (zeros_vector f t) (G.solve (replicate t 0) (zeros_vector f t) (zeros_clear f t size r gaps zs small))))
      ∙ at_zeros t m)
  cofactors b before after false G (more ys zs' v w s o n e) =
      go (unless_nil ys v (G.clear ys v s)) (unless_nil zs' w (G.clear zs' w o))
    where
      go : AllNil (ring_of f) t (el_at f ys) ⊎ Cofactors f t size r gaps zs false → AllNil (ring_of f) t (el_at f zs') ⊎ Cofactors f t size r gaps zs false
          → Cofactors f t size r gaps zs false
      go (inr c) _ = c
      go (inl y) (inr c) = c
      go (inl y) (inl z) = absurd (n (vector_ext f t ys zs' v w (λ m h. y m h ∙ sym (z m h))))

  pub fewer : gaps < t → Cofactors f t size r gaps zs false
  fewer h =
      other (listed f t N.y) N.j (listed_vector f t N.y)
      (λ j g. product_listed f zs small (j * size + r) t N.y ∙ ap (λ x. x.0) (N.solves j g)) N.inside
      (λ e. N.some (same f _ _ (sym (at_listed f t N.y N.j N.inside) ∙ e)))
    where
      N : Nontrivial (field_of f) gaps t (λ j i. lift (ring_of f) (el_at f zs) i (j * size + r))
      N = underdetermined (field_of f) (one_not_zero f) gaps t (λ j i. lift (ring_of f) (el_at f zs) i (j * size + r)) h

-- the multiples of the product over the kept places
module _ (f n size r gaps most t c : ℕ) (xs ms zs : List ℕ) (P : Nodes f n xs) (Z : Vanishes f xs ms n c zs) (few : c ≤ 255) (sum : most ≡ c + t)
    (below : (j : ℕ) → j < gaps → j * size + r < most) where
  abbrev z : ℕ → Elem f
  z = el_at f zs

  abbrev L : Leads (ring_of f) z c
  L = leads f xs ms n c zs Z

  node : (p : ℕ) (h : p < n) → el f (at xs p) ≡ (at xs p, P.below p h)
  node p h = same f _ _ (el_is f (at xs p) (P.below p h))

  z_root : (p : ℕ) → p < n → T (kept ms p) → front_value (ring_of f) z (suc c) (el f (at xs p)) ≡ (ring_of f).nil
  z_root p h k = rw (node p h) (root f xs ms n c zs Z few p h (kept_not_lost ms p k) (P.below p h))

  -- such a polynomial is a multiple
  module _ (ds : List ℕ) (A : Annihilates f n size r gaps most xs ms ds) where
    ds_below : (m : ℕ) → at ds m < q f
    ds_below = all_below_any (q f) ds (zero_below f) (so A.below)

    ds_root : (p : ℕ) → p < n → T (kept ms p) → front_value (ring_of f) (el_at f ds) (c + t) (el f (at xs p)) ≡ (ring_of f).nil
    ds_root p h k =
        rw (node p h)
        (same f _ _
        (sym (poly_value f ds (c + t) (at xs p) (P.below p h) (omega (arith, A.size_is)) ds_below) ∙ A.zeros p h (kept_not_lost ms p k)))

    u : ℕ → Elem f
    u = (quotient (ring_of f) z c L t (el_at f ds)).u

    ds_is : (m : ℕ) → m < c + t → el_at f ds m ≡ multiple (ring_of f) z t u m
    unfolding u
    ds_is =
        factored (field_of f) (λ p. el f (at xs p)) (kept ms) n (nodes_differ f n xs P) z c L (omega (arith, Z.taken)) z_root t (el_at f ds) ds_root

    u_clear : Clear f t size r gaps zs (listed f t u)
    u_clear j h =
        let e = j * size + r in
        product_listed f zs Z.below e t u ∙ ap (λ x. x.0) (sym (ds_is e (omega (arith, below j h)))) ∙ el_is f (at ds e) (ds_below e) ∙ A.gap_zeros j h

    ds_nil : ((m : ℕ) → m < t → at (listed f t u) m ≡ 0) → (m : ℕ) → at ds m ≡ 0
    ds_nil o m = go (dec_lt m most)
      where
        go : Dec (m < most) → at ds m ≡ 0
        go (yes h) =
            zero_of f (at ds m) (ds_below m)
            (ds_is m (omega arith)
            ∙ dot_none (ring_of f) t (λ i. lift (ring_of f) z i m) u (λ i g. same f _ _ (sym (at_listed f t u i g) ∙ o i g)))
        go (no h) = at_past ds m (omega (arith, A.size_is))

  -- a multiple is such a polynomial
  module _ (us : List ℕ) (v : Vector f t us) (o : Clear f t size r gaps zs us) where
    abbrev w : ℕ → Elem f
    w = multiple (ring_of f) z t (el_at f us)

    w_root : (p : ℕ) → p < n → at ms p ≢ 1 → poly f (listed f most w) (at xs p) ≡ 0
    w_root p h k =
        let x : Elem f = (at xs p, P.below p h) in
        poly_value f (listed f most w) most (at xs p) (P.below p h) (omega (arith, length_listed f most w))
        (all_below_any (q f) (listed f most w) (zero_below f) (listed_below f most w))
        ∙ ap (λ y. y.0)
        (value_same (ring_of f) (el_at f (listed f most w)) w most x (el_at_listed f most w)
        ∙ multiple_root (ring_of f) z c L x (root f xs ms n c zs Z few p h k (P.below p h)) t (el_at f us) most (omega arith))

    w_annihilates : Annihilates f n size r gaps most xs ms (listed f most w)
    w_annihilates =
        record {
          size_is = length_listed f most w;
          below = yes_true _ (listed_below f most w);
          zeros = w_root;
          gap_zeros = λ j h. at_listed f most w (j * size + r) (below j h) ∙ sym (product_is f zs Z.below (j * size + r) t us v) ∙ o j h;
        }

    w_some : Highest (ring_of f) t (el_at f us) → Annihilated f n size r gaps most xs ms false
    w_some H =
        let b : c + H.j < most = omega (arith, H.inside) in
        some (listed f most w) (c + H.j) w_annihilates
        (λ e. H.some (sym (multiple_highest (ring_of f) z c L t (el_at f us) H.j H.inside H.above) ∙ same f _ _ (sym (at_listed f most w (c + H.j) b) ∙ e)))

  pub annihilated : (x : Bool) → Cofactors f t size r gaps zs x → Annihilated f n size r gaps most xs ms x
  annihilated true (only o) = none (λ ds A. ds_nil ds A (o (listed f t (u ds A)) (listed_vector f t (u ds A)) (u_clear ds A)))
  annihilated false (other us m v o h d) = go (highest (ring_of f) t (el_at f us))
    where
      go : AllNil (ring_of f) t (el_at f us) ⊎ Highest (ring_of f) t (el_at f us) → Annihilated f n size r gaps most xs ms false
      go (inl e) = absurd (d (zero_of f (at us m) (vector_below f t us v m h) (e m h)))
      go (inr H) = w_some us v o H

pub annihilated_fewer : (f n size r gaps most t : ℕ) (xs ms : List ℕ) → Nodes f n xs → n ≤ 255 → most ≡ count (kept ms) n + t
    → ((j : ℕ) → j < gaps → j * size + r < most) → gaps < t → Annihilated f n size r gaps most xs ms false
annihilated_fewer f n size r gaps most t xs ms P small sum below h =
    annihilated f n size r gaps most t S.c xs ms S.zs P Z (omega (arith, Z.taken, count_most (kept ms) n)) (omega (arith, Z.taken)) below false
    (fewer f t size r gaps S.zs Z.below h)
  where
    S : Product f xs ms n
    S = product_of f n xs ms small P.below n (omega arith)

    Z : Vanishes f xs ms n S.c S.zs
    Z = S.vanishes
