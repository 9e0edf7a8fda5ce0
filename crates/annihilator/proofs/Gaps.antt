-- The equations of the gaps: what solves them is what makes a product with no coefficient there. Assumes nothing.
--   shifted_near, shifted_far, shifted_below, shifted_lift    one coefficient of a shifted row
--   product_is, product_listed                                a coefficient of the product is that over the field
--   zeros_vector, zeros_clear                                 0 solves every equation
--   filled_below, gathered_more                               a gap more: its row is the newcomer
--   gathered_none                                             no gap yet
use mathlib.Core.Path.{◌≡◌, refl, sym, ap, ◌∙◌}
use mathlib.Core.Bool.{Bool, true, false}
use mathlib.Core.List.{List}
use Prim.Native.Nat.{ℕ, ◌+◌, ◌*◌, ◌-◌, ◌≤◌, ◌<◌}
use native.Mathlib.Decide.{ℕ_discrete, dec_lt}
use native.Mathlib.Omega.{arith}
use borrow.Author.Tests.{lt-ltb, le-ltb}
use borrow.Rule.Slice.PartMut.{mid_of}
use lib.ListN.{length, take, replicate, length-drop, length-replicate}
use lib.Seq.{get_or-take, length-take-le}
use Rattle.algebra.specs.Sequence.{at, tabulate}
use Rattle.algebra.specs.Writing.{Written}
use Rattle.algebra.proofs.At.{at_zeros}
use Rattle.algebra.proofs.Tabulate.{length_tabulate, at_tabulate, tabulate_is}
use Rattle.algebra.proofs.Equations.{dot_cong}
use Rattle.algebra.proofs.Parity.{dot_none}
use Rattle.algebra.proofs.Multiples.{lift, lift_is, lift_low, multiple}
use Rattle.field.specs.Field.{q}
use Rattle.field.specs.Polynomial.{dotted}
use Rattle.field.proofs.Elem.{Elem, ring_of, el, zero_below, el_zero}
use Rattle.field.proofs.Elements.{el_at, listed, el_at_listed}
use Rattle.field.proofs.Products.{dotted_stop}
use Rattle.linear.specs.System.{Vector, entry, coefs, residue, Solved, Echelon, Inserted}
use Rattle.linear.proofs.Elements.{dot_is, listed_vector}
use Rattle.linear.proofs.Newcomer.{start, filled, filled_row, filled_coefs, filled_room, filled_same}
use Rattle.linear.proofs.Substitution.{vector_of, cleared_echelon, cleared_solved}
use Rattle.annihilator.specs.Step.{shifted, product, Clear, Gathered}

pub shifted_near : (zs : List ℕ) (e i : ℕ) → i ≤ e → shifted zs e i ≡ at zs (e - i)
unfolding shifted
shifted_near zs e i h = rw (le-ltb e i h) refl

pub shifted_far : (zs : List ℕ) (e i : ℕ) → e < i → shifted zs e i ≡ 0
unfolding shifted
shifted_far zs e i h = rw (lt-ltb e i h) refl

module _ (f : ℕ) (zs : List ℕ) (below : (m : ℕ) → at zs m < q f) (e : ℕ) where
  pub shifted_below : (i : ℕ) → shifted zs e i < q f
  shifted_below i = go (dec_lt e i)
    where
      go : Dec (e < i) → shifted zs e i < q f
      go (yes h) = rw (shifted_far zs e i h) (zero_below f)
      go (no h) = rw (shifted_near zs e i (omega arith)) (below (e - i))

  shifted_lift : (i : ℕ) → el f (shifted zs e i) ≡ lift (ring_of f) (el_at f zs) i e
  shifted_lift i = go (dec_lt e i)
    where
      go : Dec (e < i) → el f (shifted zs e i) ≡ lift (ring_of f) (el_at f zs) i e
      go (yes h) = ap (el f) (shifted_far zs e i h) ∙ el_zero f ∙ sym (lift_low (ring_of f) (el_at f zs) i e h)
      go (no h) = ap (el f) (shifted_near zs e i (omega arith)) ∙ sym (lift_is (ring_of f) (el_at f zs) i e (omega arith))

  pub product_is : (t : ℕ) (us : List ℕ) → Vector f t us → product f t zs us e ≡ (multiple (ring_of f) (el_at f zs) t (el_at f us) e).0
  unfolding product
  product_is t us v =
      let w = tabulate (shifted zs e) t in
      sym (dot_is f t w us 0 (omega (arith, length_tabulate (shifted zs e) t)) (λ m h. rw (here m h) (shifted_below m)) v)
      ∙ ap (λ x. x.0)
      (dot_cong (ring_of f) t (λ m. el_at f w (0 + m)) (λ m. lift (ring_of f) (el_at f zs) m e) (el_at f us) (el_at f us)
      (λ m h. ap (λ x. (ring_of f).mul x (el_at f us m)) (ap (el f) (here m h) ∙ shifted_lift m)))
    where
      here : (m : ℕ) → m < t → at (tabulate (shifted zs e) t) (0 + m) ≡ shifted zs e m
      here m h = let z : 0 + m ≡ m = omega arith in ap (at (tabulate (shifted zs e) t)) z ∙ at_tabulate (shifted zs e) 0 t m h

  pub product_listed : (t : ℕ) (y : ℕ → Elem f) → product f t zs (listed f t y) e ≡ (multiple (ring_of f) (el_at f zs) t y e).0
  product_listed t y =
      product_is t (listed f t y) (listed_vector f t y)
      ∙ ap (λ x. x.0)
      (dot_cong (ring_of f) t (λ m. lift (ring_of f) (el_at f zs) m e) (λ m. lift (ring_of f) (el_at f zs) m e) (el_at f (listed f t y)) y
      (λ m h. ap (λ x. (ring_of f).mul (lift (ring_of f) (el_at f zs) m e) x) (el_at_listed f t y m h)))

-- 0 solves every equation
pub zeros_vector : (f t : ℕ) → Vector f t (replicate t 0)
zeros_vector f t = vector_of f t (replicate t 0) (length-replicate {A = ℕ} t 0) (λ m h. rw (at_zeros t m) (zero_below f))

pub zeros_clear : (f t size r gaps : ℕ) (zs : List ℕ) → ((m : ℕ) → at zs m < q f) → Clear f t size r gaps zs (replicate t 0)
zeros_clear f t size r gaps zs below j h =
    let e = j * size + r in
    product_is f zs below e t (replicate t 0) (zeros_vector f t)
    ∙ ap (λ x. x.0)
    (dot_none (ring_of f) t (λ i. lift (ring_of f) (el_at f zs) i e) (el_at f (replicate t 0)) (λ m _. ap (el f) (at_zeros t m) ∙ el_zero f))

-- a buffer whose newcomer is the row of exponent e
module _ (f t e : ℕ) (zs : List ℕ) (small : (m : ℕ) → at zs m < q f) (a y : List ℕ) (E : Echelon f t a)
    (R : Written (shifted zs e) 0 t (mid_of (start t) (length a - start t) a) y) where
  abbrev b : List ℕ
  b = filled t a y

  pub filled_below : (m : ℕ) → m < t → entry t b t m < q f
  filled_below m h = rw (filled_row f t a y E R.size m h, R.put m (omega arith) h) (shifted_below f zs small e m)

  same : (us : List ℕ) → Vector f t us → (i : ℕ) → i < t → residue f t b i us ≡ residue f t a i us
  same us v i h = filled_same f t a y E R.size us v i h

  new_row : (us : List ℕ) → Vector f t us → dotted f us (coefs t b) ≡ product f t zs us e
  unfolding product
  new_row us v =
      let d : t ≤ length (coefs t b) = omega (arith, filled_room f t a y E R.size, length-drop (t * (t + 1)) b) in
      sym (dotted_stop f t us (coefs t b) (omega (arith, v.size)))
      ∙ ap (dotted f us)
      (tabulate_is (shifted zs e) 0 t (take t (coefs t b)) (length-take-le t (coefs t b) d)
      (λ i h. get_or-take t (coefs t b) i 0 h ∙ filled_coefs f t a y E R.size i h ∙ R.put i (omega arith) h))

  pub gathered_more : (size r j : ℕ) (d : List ℕ) (x : Bool) → e ≡ j * size + r → Gathered f t size r zs j a → Inserted f t 0 b d x
      → Gathered f t size r zs (j + 1) d
  gathered_more size r j d false is G I =
      let o : List ℕ = replicate t 0 in
      absurd (I.none refl o (zeros_vector f t) (λ i h. same o (zeros_vector f t) i h ∙ G.solve o (zeros_vector f t) (zeros_clear f t size r j zs small) i h)
      (new_row o (zeros_vector f t) ∙ ap (product f t zs o) is ∙ zeros_clear f t size r (j + 1) zs small j (omega arith)))
  gathered_more size r j d true is G I =
      record {
        echelon = I.echelon;
        clear = λ us v o i h. clear us v o i h (ℕ_discrete i j);
        solve = λ us v o.
            I.all refl us v (λ i h. same us v i h ∙ G.solve us v (λ p g. o p (omega arith)) i h) (new_row us v ∙ ap (product f t zs us) is ∙ o j (omega arith));
      }
    where
      clear : (us : List ℕ) → Vector f t us → Solved f t d us → (i : ℕ) → i < j + 1 → Dec (i ≡ j) → product f t zs us (i * size + r) ≡ 0
      clear us v o i h (yes p) = rw p (ap (product f t zs us) (sym is) ∙ sym (new_row us v) ∙ I.new refl us v o)
      clear us v o i h (no p) = G.clear us v (λ m g. sym (same us v m g) ∙ I.old refl us v o m g) i (omega arith)

pub gathered_none : (f t size r : ℕ) (zs b : List ℕ) → t * (t + 1) + (t + 1) ≤ length b → b ≡ replicate (length b) 0 → Gathered f t size r zs 0 b
gathered_none f t size r zs b l e =
    record {
      echelon = cleared_echelon f t b l e;
      clear = λ us v o j h. absurd (omega arith);
      solve = λ us v o. cleared_solved f t b l e us v;
    }
