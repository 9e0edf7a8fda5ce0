-- Elimination in the buffer: a row operation keeps the solutions, and the newcomer goes from column to column. Assumes nothing.
--   reduced, joined                    one column: the newcomer is reduced by row j, becomes row j
--   same_more                          one column after the other
--   placed_last, inserted
use mathlib.Core.Path.{◌≡◌, sym, ap, ap₂, ◌∙◌}
use mathlib.Core.Logic.{◌≢◌}
use mathlib.Core.Bool.{Bool, true, false}
use mathlib.Core.List.{List}
use Prim.Native.Nat.{ℕ, ◌+◌, ◌*◌, ◌-◌, ◌≤◌, ◌<◌}
use native.Mathlib.Decide.{ℕ_discrete}
use native.Mathlib.Omega.{arith}
use borrow.Author.Tests.{eq-eqb, ne_eqb}
use lib.Dec.{eqb}
use lib.ListN.{length, set}
use lib.Seq.{get_or-set_same, get_or-set_other}
use Rattle.algebra.specs.Sequence.{at}
use Rattle.algebra.specs.Equations as equations
use Rattle.algebra.proofs.Booleans.{differ}
use Rattle.algebra.proofs.Strides.{row_step}
use Rattle.algebra.proofs.Ring.{add_cancel}
use Rattle.algebra.proofs.Equations.{dot_cong, minus_one, defect_cong, defect_const, add_solves, steps_insert, insert_solves, turn}
use Rattle.field.specs.Field.{q, plus, minus, times, inverse}
use Rattle.field.specs.Polynomial.{dotted}
use Rattle.field.proofs.Laws.{laws}
use Rattle.field.proofs.Elem.{Elem, same, ring_of, field_of, inv, el, el_is, zero_below, el_zero, times_zero}
use Rattle.field.proofs.Elements.{el_at}
use Rattle.linear.specs.System.{Vector, entry, coefs, residue, Solved, Echelon, Inserted}
use Rattle.linear.specs.Step.{Added, Ready, AllSolved, SameSolutions, WentThrough, WentThroughAll}
use Rattle.linear.proofs.Rows.{row_others, row_put}
use Rattle.linear.proofs.Elements.{FieldRow, rows, row_of, residue_is, residue_to, residue_of, dot_is, echelon_to, echelon_of, echelon_kept, residue_kept}

-- the rows of a buffer that is ready
pub ready_row : (f k j : ℕ) (w : List ℕ) → Ready f k j w → (i : ℕ) → i ≤ k → FieldRow f k w i
ready_row f k j w R i h = go (ℕ_discrete i k)
  where
    go : Dec (i ≡ k) → FieldRow f k w i
    go (yes e) = rw e (record { room = R.echelon.room; below = R.below })
    go (no n) = row_of f k w R.echelon i (omega arith)

unzeroed : (f k j : ℕ) (w : List ℕ) → Ready f k j w → Ready f k 0 w
unzeroed f k j w R = record { echelon = R.echelon; below = R.below; zeros = λ m h. absurd (omega arith) }

-- one row operation between two rows
module _ (f k : ℕ) (a b : List ℕ) (d s c : ℕ) (n : d ≢ s) (hd : d ≤ k) (hs : s ≤ k) (hc : c < q f)
    (ra : (i : ℕ) → i ≤ k → FieldRow f k a i) (rb : (i : ℕ) → i ≤ k → FieldRow f k b i)
    (others : (i m : ℕ) → i ≢ d → m ≤ k → entry k b i m ≡ entry k a i m)
    (put : (m : ℕ) → m ≤ k → entry k b d m ≡ plus f (entry k a d m) (times f c (entry k a s m))) where
  value_other : (i : ℕ) (ys : List ℕ) → i ≤ k → i ≢ d → Vector f k ys → residue f k b i ys ≡ residue f k a i ys
  value_other i ys h g v =
      sym (residue_is f k b i ys (rb i h) v)
      ∙ ap (λ x. x.0) (defect_cong (ring_of f) k (rows f k b i) (rows f k a i) (el_at f ys) (λ m l. ap (el f) (others i m g l)))
      ∙ residue_is f k a i ys (ra i h) v

  put_el : (m : ℕ) → m ≤ k → rows f k b d m ≡ (ring_of f).add (rows f k a d m) ((ring_of f).mul (c, hc) (rows f k a s m))
  put_el m h =
      same f _ _ (el_is f (entry k b d m) ((rb d hd).below m h) ∙ put m h
      ∙ ap₂ (λ x y. plus f x (times f c y)) (sym (el_is f (entry k a d m) ((ra d hd).below m h))) (sym (el_is f (entry k a s m) ((ra s hs).below m h))))

  value_kept : (ys : List ℕ) → Vector f k ys → residue f k a s ys ≡ 0 → residue f k b d ys ≡ residue f k a d ys
  value_kept ys v e =
      sym (residue_is f k b d ys (rb d hd) v)
      ∙ ap (λ x. x.0) (add_solves (ring_of f) k (c, hc) (rows f k a d) (rows f k a s) (rows f k b d) (el_at f ys) put_el (residue_to f k a s ys (ra s hs) v e))
      ∙ residue_is f k a d ys (ra d hd) v

  keeps : SameSolutions f k a b
  keeps = record { on = on; back = back }
    where
      on : (ys : List ℕ) → Vector f k ys → AllSolved f k a ys → AllSolved f k b ys
      on ys v F i h = go (ℕ_discrete i d)
        where
          go : Dec (i ≡ d) → residue f k b i ys ≡ 0
          go (yes p) = rw p (value_kept ys v (F s hs) ∙ F d hd)
          go (no p) = value_other i ys h p v ∙ F i h

      back : (ys : List ℕ) → Vector f k ys → AllSolved f k b ys → AllSolved f k a ys
      back ys v F i h = go (ℕ_discrete i d)
        where
          src : residue f k a s ys ≡ 0
          src = sym (value_other s ys hs (λ e. n (sym e)) v) ∙ F s hs

          go : Dec (i ≡ d) → residue f k a i ys ≡ 0
          go (yes p) = rw p (sym (value_kept ys v src) ∙ F d hd)
          go (no p) = sym (value_other i ys h p v) ∙ F i h

-- row j starts at j: it takes the newcomer's first coefficient off
module _ (f k j s : ℕ) (a b : List ℕ) (hj : j < k) (hs : s ≤ j) (R : Ready f k j a) (len : length b ≡ length a)
    (n : entry k a j j ≢ 0) (A : Added f a b (k * (k + 1) + s) (j * (k + 1) + s) (k + 1 - s) (entry k a k j)) where
  hc : entry k a k j < q f
  hc = R.below j (omega arith)

  other : (i m : ℕ) → i ≢ k → m ≤ k → entry k b i m ≡ entry k a i m
  other = row_others f k a b k j (entry k a k j) s A (omega arith)

  put : (m : ℕ) → m ≤ k → entry k b k m ≡ plus f (entry k a k m) (times f (entry k a k j) (entry k a j m))
  put =
      row_put f k a b k j (entry k a k j) s A (omega arith) hc (λ m h. R.below m (omega arith)) (λ m h. R.echelon.low j m hj (omega arith))

  still : Echelon f k b
  still = echelon_kept f k a b R.echelon (omega (arith, len, R.echelon.room)) (λ i m p g. other i m (omega arith) g)

  cancelled : plus f (entry k a k j) (times f (entry k a k j) (minus f 0 1)) ≡ 0
  cancelled =
      let x = entry k a k j in
      let one : minus f 0 1 < q f = (laws f).minus_below 0 1 in
      (laws f).plus_comm x (times f x (minus f 0 1))
      ∙ ap (λ y. plus f y x) ((laws f).times_comm x (minus f 0 1) hc one) ∙ ap (λ y. y.0) (minus_one (ring_of f) (x, hc))

  gone : (m : ℕ) → m < j + 1 → entry k b k m ≡ 0
  gone m g = go (ℕ_discrete m j)
    where
      go : Dec (m ≡ j) → entry k b k m ≡ 0
      go (yes p) = rw p (put j (omega arith) ∙ ap (λ x. plus f (entry k a k j) (times f (entry k a k j) x)) (R.echelon.head j hj n) ∙ cancelled)
      go (no p) =
          put m (omega arith)
          ∙ ap₂ (λ x y. plus f x (times f (entry k a k j) y)) (R.zeros m (omega arith)) (R.echelon.low j m hj (omega arith))
          ∙ ap (plus f 0) (times_zero f (entry k a k j) hc) ∙ (laws f).plus_zero 0 (zero_below f)

  after : Ready f k 0 b
  after =
      record {
        echelon = still;
        below = λ m g. rw (put m g) ((laws f).plus_below (entry k a k m) (times f (entry k a k j) (entry k a j m)));
        zeros = λ m h. absurd (omega arith);
      }

  pub reduced : WentThrough f k j a b false
  reduced =
      record {
        ready = after;
        zeros = λ _. gone;
        same =
            keeps f k a b k j (entry k a k j) (omega arith) (omega arith) (omega arith) hc (ready_row f k j a R) (ready_row f k 0 b after) other put;
        spare = λ e. differ (sym e);
      }

-- row j is bare: it takes the newcomer
module _ (f k j s : ℕ) (a b : List ℕ) (hj : j < k) (hs : s ≤ j) (R : Ready f k j a) (len : length b ≡ length a)
    (e : entry k a j j ≡ 0) (n : entry k a k j ≢ 0) (c : ℕ) (ec : c ≡ minus f 0 (inverse f (entry k a k j)))
    (A : Added f a b (j * (k + 1) + s) (k * (k + 1) + s) (k + 1 - s) c) where
  hh : entry k a k j < q f
  hh = R.below j (omega arith)

  hc' : c < q f
  hc' = rw ec ((laws f).minus_below 0 (inverse f (entry k a k j)))

  other' : (i m : ℕ) → i ≢ j → m ≤ k → entry k b i m ≡ entry k a i m
  other' = row_others f k a b j k c s A (omega arith)

  put' : (m : ℕ) → m ≤ k → entry k b j m ≡ plus f (entry k a j m) (times f c (entry k a k m))
  put' =
      row_put f k a b j k c s A (omega arith) hc' (λ m h. R.echelon.below j m hj (omega arith)) (λ m h. R.zeros m (omega arith))

  below' : (i m : ℕ) → i ≤ k → m ≤ k → entry k b i m < q f
  below' i m p g = go (ℕ_discrete i j)
    where
      go : Dec (i ≡ j) → entry k b i m < q f
      go (yes w) = rw (w, put' m g) ((laws f).plus_below (entry k a j m) (times f c (entry k a k m)))
      go (no w) = rw (other' i m w g) ((ready_row f k j a R i p).below m g)

  turned : (ring_of f).mul (c, hc') (rows f k a k j) ≡ (ring_of f).sub (ring_of f).nil (ring_of f).unit
  unfolding inv
  turned =
      same f _ _ (ap₂ (times f) ec (el_is f (entry k a k j) hh)
      ∙ ap (λ x. x.0) (turn (field_of f) (entry k a k j, hh) (λ z. n (ap (λ x. x.0) z))))

  put_el' : (m : ℕ) → m ≤ k → rows f k b j m ≡ (ring_of f).mul (c, hc') (rows f k a k m)
  put_el' m g =
      same f _ _ (el_is f (entry k b j m) (below' j m (omega arith) g) ∙ put' m g ∙ ap (λ x. plus f x (times f c (entry k a k m))) (R.echelon.bare j m hj e g)
      ∙ (laws f).plus_comm 0 (times f c (entry k a k m)) ∙ (laws f).plus_zero (times f c (entry k a k m)) ((laws f).times_below c (entry k a k m))
      ∙ ap (times f c) (sym (el_is f (entry k a k m) (R.below m g))))

  zeros_el : (m : ℕ) → m < j → rows f k a k m ≡ (ring_of f).nil
  zeros_el m h = ap (el f) (R.zeros m h) ∙ el_zero f

  others_el : (i m : ℕ) → i < k → i ≢ j → m ≤ k → rows f k b i m ≡ rows f k a i m
  others_el i m p w g = ap (el f) (other' i m w g)

  still' : Echelon f k b
  still' =
      echelon_of f k b (omega (arith, len, R.echelon.room)) (λ i m p g. below' i m (omega arith) g)
      (steps_insert (ring_of f) k (rows f k a) (rows f k b) (echelon_to f k a R.echelon) j hj (c, hc') (rows f k a k) zeros_el turned others_el put_el')

  after' : Ready f k 0 b
  after' = record { echelon = still'; below = λ m g. below' k m (omega arith) g; zeros = λ m h. absurd (omega arith) }

  spare : (ys : List ℕ) → Vector f k ys → Solved f k b ys → residue f k b k ys ≡ 0
  spare ys v s =
      let rb = ready_row f k 0 b after' in
      residue_of f k b k ys (rb k (omega arith)) v
      (defect_cong (ring_of f) k (rows f k b k) (rows f k a k) (el_at f ys) (λ m g. ap (el f) (other' k m (omega arith) g))
      ∙ insert_solves (ring_of f) k (rows f k a) (rows f k b) (echelon_to f k a R.echelon) j hj (c, hc') (rows f k a k) zeros_el turned others_el put_el'
      (el_at f ys) (residue_to f k b j ys (rb j (omega arith)) v (s j hj)))

  pub joined : WentThrough f k j a b true
  joined =
      record {
        ready = after';
        zeros = λ z. differ z;
        same =
            keeps f k a b j k c (omega arith) (omega arith) (omega arith) hc' (ready_row f k j a R) (ready_row f k 0 b after') other' put';
        spare = λ _. spare;
      }

-- one column after the other
pub same_more : (f k : ℕ) (a b c : List ℕ) → SameSolutions f k a b → SameSolutions f k b c → SameSolutions f k a c
same_more f k a b c S T = record { on = λ y h s. T.on y h (S.on y h s); back = λ y h s. S.back y h (T.back y h s) }

all_solved : (f k : ℕ) (b ys : List ℕ) → Solved f k b ys → residue f k b k ys ≡ 0 → AllSolved f k b ys
all_solved f k b ys s z i h = go (ℕ_discrete i k)
  where
    go : Dec (i ≡ k) → residue f k b i ys ≡ 0
    go (yes p) = rw p z
    go (no p) = s i (omega arith)

placed : (f k : ℕ) (a b : List ℕ) → Ready f k 0 b → SameSolutions f k a b
    → ((ys : List ℕ) → Vector f k ys → Solved f k b ys → residue f k b k ys ≡ 0) → WentThroughAll f k a b true
placed f k a b R S z =
    record {
      ready = R;
      joins = λ _ ys v s. S.back ys v (all_solved f k b ys s (z ys v s));
      stays = λ _ ys v s i n. S.on ys v s i (omega arith);
      never = λ e. differ e;
    }

-- no coefficient is left
value_const : (f k : ℕ) (b : List ℕ) → Ready f k k b → (ys : List ℕ) → Vector f k ys → residue f k b k ys ≡ entry k b k k
value_const f k b R ys v =
    sym (residue_is f k b k ys (ready_row f k k b R k (omega arith)) v)
    ∙ ap (λ x. x.0) (defect_const (ring_of f) k (rows f k b k) (el_at f ys) (λ m h. ap (el f) (R.zeros m h) ∙ el_zero f))
    ∙ el_is f (entry k b k k) (R.below k (omega arith))

placed_none : (f k : ℕ) (a b : List ℕ) → SameSolutions f k a b → Ready f k k b → entry k b k k ≡ 0 → WentThroughAll f k a b true
placed_none f k a b S R e = placed f k a b (unzeroed f k k b R) S (λ ys v s. value_const f k b R ys v ∙ e)

placed_never : (f k : ℕ) (a b : List ℕ) → SameSolutions f k a b → Ready f k k b → entry k b k k ≢ 0 → WentThroughAll f k a b false
placed_never f k a b S R n =
    record {
      ready = unzeroed f k k b R;
      joins = λ e. differ (sym e);
      stays = λ e. differ (sym e);
      never = λ _ ys v s. n (sym (value_const f k b R ys v) ∙ S.on ys v s k (omega arith));
    }

-- what is left of the newcomer is its constant: it is among the rows just where that is 0
pub placed_last : (f k : ℕ) (a b : List ℕ) → SameSolutions f k a b → Ready f k k b → WentThroughAll f k a b (eqb (entry k b k k) 0)
placed_last f k a b S R = go (ℕ_discrete (entry k b k k) 0)
  where
    go : Dec (entry k b k k ≡ 0) → WentThroughAll f k a b (eqb (entry k b k k) 0)
    go (yes e) = rw (eq-eqb (entry k b k k) 0 e) (placed_none f k a b S R e)
    go (no n) = rw (ne_eqb (entry k b k k) 0 n) (placed_never f k a b S R n)

-- the newcomer with its constant
module _ (f k v : ℕ) (a b : List ℕ) (E : Echelon f k a) (small : (m : ℕ) → m < k → entry k a k m < q f) (hv : v < q f)
    (eb : b ≡ set a (k * (k + 1) + k) (minus f 0 v)) (lb : length b ≡ length a) where
  kept : (i m : ℕ) → i < k → m ≤ k → entry k b i m ≡ entry k a i m
  kept i m h g = rw eb (get_or-set_other a (k * (k + 1) + k) (i * (k + 1) + m) (minus f 0 v) 0 (omega (arith, row_step i k (k + 1) h)))

  coef : (m : ℕ) → m < k → entry k b k m ≡ entry k a k m
  coef m h = rw eb (get_or-set_other a (k * (k + 1) + k) (k * (k + 1) + m) (minus f 0 v) 0 (omega arith))

  last : entry k b k k ≡ minus f 0 v
  last = rw eb (get_or-set_same a (k * (k + 1) + k) (minus f 0 v) 0 (omega (arith, E.room)))

  pub entered : Ready f k 0 b
  entered =
      record {
        echelon = echelon_kept f k a b E (omega (arith, lb, E.room)) kept;
        below = λ m g. below m g (ℕ_discrete m k);
        zeros = λ m h. absurd (omega arith);
      }
    where
      below : (m : ℕ) → m ≤ k → Dec (m ≡ k) → entry k b k m < q f
      below m g (yes w) = rw (w, last) ((laws f).minus_below 0 v)
      below m g (no w) = rw (coef m (omega arith)) (small m (omega arith))

  same_value : (i : ℕ) (ys : List ℕ) → i < k → Vector f k ys → residue f k b i ys ≡ residue f k a i ys
  same_value = residue_kept f k a b E (omega (arith, lb, E.room)) kept

  value_new : (ys : List ℕ) → Vector f k ys → residue f k b k ys ≡ plus f (dotted f ys (coefs k a)) (minus f 0 v)
  unfolding equations.defect
  value_new ys y =
      sym (residue_is f k b k ys (ready_row f k 0 b entered k (omega arith)) y)
      ∙ ap₂ (plus f)
      (ap (λ x. x.0) (dot_cong (ring_of f) k (rows f k b k) (rows f k a k) (el_at f ys) (el_at f ys)
      (λ m h. ap (λ x. (ring_of f).mul (el f x) (el f (at ys m))) (coef m h)))
      ∙ dot_is f k a ys (k * (k + 1)) (omega (arith, E.room)) small y)
      (el_is f (entry k b k k) (rw last ((laws f).minus_below 0 v)) ∙ last)

  opposite : plus f v (minus f 0 v) ≡ 0
  opposite = (laws f).plus_comm v (minus f 0 v) ∙ (laws f).minus_plus 0 v (zero_below f) hv

  holds_of : (ys : List ℕ) → Vector f k ys → residue f k b k ys ≡ 0 → dotted f ys (coefs k a) ≡ v
  holds_of ys y e =
      let d = dotted f ys (coefs k a) in
      let hd : d < q f = rw (← dot_is f k a ys (k * (k + 1)) (omega (arith, E.room)) small y) (equations.dot (ring_of f) k (rows f k a k) (el_at f ys)).1 in
      let w : Elem f = (minus f 0 v, (laws f).minus_below 0 v) in
      ap (λ x. x.0) (add_cancel (ring_of f) (d, hd) (v, hv) w (same f _ _ (sym (value_new ys y) ∙ e ∙ sym opposite)))

  holds_to : (ys : List ℕ) → Vector f k ys → dotted f ys (coefs k a) ≡ v → residue f k b k ys ≡ 0
  holds_to ys y e = value_new ys y ∙ ap (λ x. plus f x (minus f 0 v)) e ∙ opposite

  every_row : (ys : List ℕ) → Vector f k ys → Solved f k a ys → dotted f ys (coefs k a) ≡ v → AllSolved f k b ys
  every_row ys y s e = all_solved f k b ys (λ i h. same_value i ys h y ∙ s i h) (holds_to ys y e)

  pub inserted : (c : List ℕ) (r : Bool) → WentThroughAll f k b c r → Inserted f k v a c r
  inserted c r P =
      record {
        echelon = P.ready.echelon;
        old = λ e ys y s i h. sym (same_value i ys h y) ∙ P.joins e ys y s i (omega arith);
        new = λ e ys y s. holds_of ys y (P.joins e ys y s k (omega arith));
        all = λ e ys y s d. P.stays e ys y (every_row ys y s d);
        none = λ e ys y s d. P.never e ys y (every_row ys y s d);
      }
