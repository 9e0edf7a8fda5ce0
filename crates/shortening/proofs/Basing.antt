-- A row in powers of g made one in powers of g + c, a block more at a time, from the last to the first. Assumes nothing.
--   Moving f r c m a z    == the entries from m on are made so
--   moving_none, moving_more, moving_done
--   block_written         what is added to a block
--   before_block, block_inside    where blocks start
use mathlib.Core.Path.{◌≡◌, refl, sym, ap, ap₂, ◌∙◌}
use mathlib.Core.List.{List, ◌++◌, map-append}
use Prim.Native.Nat.{ℕ, suc, ◌+◌, ◌*◌, ◌-◌, ◌/◌, ◌≤◌, ◌<◌}
use native.Mathlib.Nat.{div-mul-le_self, mul-le-mul_right}
use native.Mathlib.Decide.{dec_lt}
use native.Mathlib.Omega.{arith}
use lib.Dec.{T}
use lib.ListN.{length, get_or, take, drop, length-map, length-drop, take-append-drop, get_or-map}
use lib.Seq.{length-take-le, get_or-take, get_or-drop, drop-drop, ext_get_or}
use Rattle.algebra.specs.Ring.{Ring}
use Rattle.algebra.specs.Sequence.{at, all_below}
use Rattle.algebra.specs.Writing.{Written, Laid}
use Rattle.algebra.specs.Polynomial.{eval}
use Rattle.algebra.proofs.Booleans.{yes_true}
use Rattle.algebra.proofs.At.{at_past}
use Rattle.algebra.proofs.Below.{all_below_any, all_below_intro}
use Rattle.algebra.proofs.Strands.{map_take, map_drop}
use Rattle.algebra.proofs.Based.{based, based_first, block_more, based_block}
use Rattle.field.specs.Field.{q, plus, times}
use Rattle.field.proofs.Laws.{laws}
use Rattle.field.proofs.Elem.{Elem, ring_of, el, zero_below, el_zero, plus_times_zero}
use Rattle.field.proofs.Elements.{els}
use Rattle.field.proofs.Values.{el_scaled}
use Rattle.code.specs.declared.Shape.{Shape}
use Rattle.code.specs.Laws.{Placed}
use Rattle.local_code.proofs.Symbols.{local_based}
use Rattle.shortening.specs.Step.{Moved}

at_els : (f : ℕ) (xs : List ℕ) (i : ℕ) → get_or (els f xs) i (ring_of f).nil ≡ el f (at xs i)
at_els f xs i = ap (get_or (els f xs) i) (sym (el_zero f)) ∙ get_or-map (el f) xs i 0

module _ (f r c : ℕ) where
  abbrev R : Ring
  R = ring_of f

  abbrev sums : 1 ≤ r → Elem f → Elem f → List ℕ → Elem f
  sums h y x xs = based (ring_of f) r h y x 0 (els f xs)

  pub record Moving (m : ℕ) (a z : List ℕ) : Type 0 where
    pub size : length z ≡ length a
    pub below : T (all_below (q f) z)
    pub before : (p : ℕ) → p < m → at z p ≡ at a p
    pub moved : (h : 1 ≤ r) (hc : c < q f) (y x : Elem f) → sums h y x (drop m z) ≡ sums h (R.add y (c, hc)) x (drop m a)

  pub moving_none : (m : ℕ) (a : List ℕ) → length a ≤ m + r → T (all_below (q f) a) → Moving m a a
  moving_none m a l t =
      let e : length (els f (drop m a)) ≤ r = omega (arith, length-map (drop m a) (el f), length-drop m a) in
      record {
        size = refl;
        below = t;
        before = λ p b. refl;
        moved = λ h hc y x. based_first R r h y x (els f (drop m a)) e ∙ sym (based_first R r h (R.add y (c, hc)) x (els f (drop m a)) e);
      }

  module _ (hc : c < q f) (m : ℕ) (a z w : List ℕ) (l : m + r ≤ length a)
      (W : Written (λ p. plus f (at z p) (times f c (at z (p + r)))) m (length z - r) z w) (M : Moving (m + r) a z) where
    any : (p : ℕ) → at z p < q f
    any p = all_below_any (q f) z (zero_below f) M.below p

    -- past the end there is nothing to add
    written : (p : ℕ) → m ≤ p → at w p ≡ plus f (at z p) (times f c (at z (p + r)))
    written p b = go (dec_lt p (length z - r))
      where
        go : Dec (p < length z - r) → at w p ≡ plus f (at z p) (times f c (at z (p + r)))
        go (yes d) = W.put p b d
        go (no d) =
            W.behind p (omega arith)
            ∙ sym (ap (λ n. plus f (at z p) (times f c n)) (at_past z (p + r) (omega arith)) ∙ plus_times_zero f (at z p) c (any p) hc)

    w_below : T (all_below (q f) w)
    w_below = all_below_intro (q f) w (λ p b. go p (dec_lt p m))
      where
        go : (p : ℕ) → Dec (p < m) → at w p < q f
        go p (yes d) = rw (W.before p d) (any p)
        go p (no d) = rw (written p (omega arith)) ((laws f).plus_below (at z p) (times f c (at z (p + r))))

    -- the block, and what is behind it
    abbrev bs : List ℕ
    bs = take r (drop m z)

    abbrev ts : List ℕ
    ts = drop r (drop m z)

    length_bs : length bs ≡ r
    length_bs = length-take-le r (drop m z) (omega (arith, length-drop m z, M.size))

    same_block : bs ≡ take r (drop m a)
    same_block =
        ext_get_or 0 bs (take r (drop m a)) (length_bs ∙ sym (length-take-le r (drop m a) (omega (arith, length-drop m a))))
        (λ i b.
        let d : i < r = omega (arith, length_bs) in
        get_or-take r (drop m z) i 0 d ∙ get_or-drop m z i 0 ∙ M.before (m + i) (omega arith) ∙ sym (get_or-take r (drop m a) i 0 d ∙ get_or-drop m a i 0))

    length_all : length (els f (drop m w)) ≡ r + length (els f ts)
    length_all =
        length-map (drop m w) (el f) ∙ omega (arith, length-drop m w, W.size, M.size, length-map ts (el f), length-drop r (drop m z), length-drop m z)

    entry : (i : ℕ) → get_or (els f (drop m w)) i R.nil ≡ R.add (get_or (els f bs ++ els f ts) i R.nil) (R.mul (c, hc) (get_or (els f ts) i R.nil))
    entry i =
        let e : m + (r + i) ≡ m + i + r = omega arith in
        at_els f (drop m w) i ∙ ap (el f) (get_or-drop m w i 0)
        ∙ el_scaled f (c, hc) (at z (m + i)) (at z (m + i + r)) (at w (m + i)) (any (m + i)) (any (m + i + r)) (written (m + i) (omega arith))
        ∙ ap₂ (λ u v. R.add u (R.mul (c, hc) v))
        (sym (ap (λ es. get_or es i R.nil) (sym (map-append (el f) bs ts) ∙ ap (els f) (take-append-drop r (drop m z)))
        ∙ at_els f (drop m z) i ∙ ap (el f) (get_or-drop m z i 0)))
        (sym (at_els f ts i ∙ ap (el f) (get_or-drop r (drop m z) i 0 ∙ get_or-drop m z (r + i) 0 ∙ ap (at z) e)))

    pub moving_more : Moving m a w
    moving_more =
        record {
          size = W.size ∙ M.size;
          below = w_below;
          before = λ p b. W.before p b ∙ M.before p (omega arith);
          moved = λ h hc y x.
              let v = R.add y (c, hc) in
              block_more R r h y x (c, hc) (els f bs) (els f ts) (els f (drop m w)) (length-map bs (el f) ∙ length_bs) length_all (λ i b. entry i)
              ∙ ap₂ (λ us u. R.add (eval R (els f us) x) (R.mul v u)) same_block
              (ap (sums h y x) (drop-drop r m z) ∙ M.moved h hc y x ∙ sym (ap (sums h v x) (drop-drop r m a)))
              ∙ sym (based_block R r h v x (els f (drop m a)) (omega (arith, length-map (drop m a) (el f), length-drop m a))
              ∙ ap₂ (λ us vs. R.add (eval R us x) (R.mul v (based R r h v x 0 vs))) (map_take (el f) r (drop m a)) (map_drop (el f) r (drop m a)));
        }

pub moving_done : (s : Shape) (P : Placed s) (c : ℕ) (a z : List ℕ) → c < q s.field → T (all_below (q s.field) a)
    → Moving s.field s.r c 0 a z → Moved s c a z
moving_done s P c a z hc t M =
    let f = s.field in
    record {
      size = M.size;
      below = yes_true (all_below (q f) z) M.below;
      same = λ y x hy hx.
          local_based s P z M.below (y, hy) (x, hx) ∙ ap (λ (v : Elem f). v.0) (M.moved P.r_least hc (y, hy) (x, hx))
          ∙ sym (local_based s P a t ((ring_of f).add (y, hy) (c, hc)) (x, hx));
    }

-- what stands r places on, copied, is what is added
pub block_written : (f r c start n to : ℕ) (a b rest z : List ℕ) → start + n ≡ to → Laid (λ i. at a (start + r + i)) start n b rest
    → Written (λ p. plus f (at a p) (times f c (at rest p))) start to a z → Written (λ p. plus f (at a p) (times f c (at a (p + r)))) start to a z
block_written f r c start n to a b rest z d L W =
    record {
      size = W.size;
      put = λ p h l.
          let e : start + r + (p - start) ≡ p + r = omega arith in
          W.put p h l ∙ ap (λ v. plus f (at a p) (times f c v)) (L.written.put p h (omega arith) ∙ ap (at a) e);
      before = W.before;
      behind = W.behind;
    }

-- where blocks start, of which there are as many as are whole
pub before_block : (b r : ℕ) → 0 < b → (b - 1) * r + r ≡ b * r
before_block b r h = let e : b ≡ suc (b - 1) = omega arith in sym (ap (λ n. n * r) e ∙ omega arith)

pub block_inside : (n r b : ℕ) → b ≤ n / r → b * r ≤ n
block_inside n r b h = omega (arith, mul-le-mul_right r h, div-mul-le_self n r)
