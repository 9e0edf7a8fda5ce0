-- The other places of a place's group: size - 1 of them, all different, in the group, below room and not the place. Assumes nothing.
--   Other s p o                  == o is in the group of p, below room, and not p
--   length_others, others_distinct, others_are, other_is, others_all
--   others_before, others_after    other i is member i of the group, or i + 1 from the place on
use mathlib.Core.Path.{◌≡◌, refl, sym, ap, ◌∙◌}
use mathlib.Core.Logic.{◌≢◌}
use mathlib.Core.Bool.{Bool, true, false, cond}
use mathlib.Core.List.{List, ◌∷◌}
use Prim.Native.Nat.{ℕ, zero, suc, ◌+◌, ◌≤◌, ◌<◌}
use native.Mathlib.Nat.{add-zero, add-suc, suc-add, zero-add, not-suc-le-zero, le_of_suc-le-suc}
use native.Mathlib.Decide.{dec_lt}
use native.Mathlib.Omega.{arith}
use lib.Dec.{eqb}
use lib.ListN.{length}
use Rattle.algebra.specs.Sequence.{at, Each, Distinct, In}
use Rattle.algebra.proofs.Equality.{Same, same, other, same?}
use Rattle.algebra.proofs.Each.{each_intro, each_at, each_index}
use Rattle.code.specs.declared.Shape.{Shape}
use Rattle.code.specs.Shape.{size, room, group, member, slot_at, others_from, others}
use Rattle.code.specs.Laws.{Placed}
use Rattle.code.proofs.Places.{member_below, group_below, slot_below, group_slot_at, member_slot_at, slot_at_injective}

module _ (s : Shape) (P : Placed s) (j o : ℕ) where
  each_from : (Q : ℕ → Type 0) (l i : ℕ) → ((m : ℕ) → i ≤ m → m < i + l → m ≢ o → Q (slot_at s j m)) → Each Q (others_from s l i j o)
  unfolding others_from
  each_from Q zero i h = tt
  each_from Q (suc l) i h = go (eqb i o) (same? i o) (others_from s l (suc i) j o) (each_from Q l (suc i) (λ m a b. h m (omega arith) (omega arith)))
    where
      go : (b : Bool) → Same i o b → (ms : List ℕ) → Each Q ms → Each Q (cond b ms (slot_at s j i ∷ ms))
      go true w ms e = e
      go false (other n) ms e = (h i (omega arith) (omega arith) n, e)

  distinct_from : (l i : ℕ) → Distinct (others_from s l i j o)
  unfolding others_from
  distinct_from zero i = tt
  distinct_from (suc l) i =
      go (eqb i o) (others_from s l (suc i) j o)
      (each_from (λ m. m ≢ slot_at s j i) l (suc i) (λ m a b n e. later m a (slot_at_injective s P j m i e))) (distinct_from l (suc i))
    where
      later : (m : ℕ) → suc i ≤ m → m ≢ i
      later m a e = omega arith

      go : (b : Bool) (ms : List ℕ) → Each (λ m. m ≢ slot_at s j i) ms → Distinct ms → Distinct (cond b ms (slot_at s j i ∷ ms))
      go true ms e d = d
      go false ms e d = (e, d)

  length_past : (l i : ℕ) → o < i → length (others_from s l i j o) ≡ l
  unfolding others_from
  length_past zero i h = refl
  length_past (suc l) i h = go (eqb i o) (same? i o) (others_from s l (suc i) j o) (length_past l (suc i) (omega arith))
    where
      go : (b : Bool) → Same i o b → (ms : List ℕ) → length ms ≡ l → length (cond b ms (slot_at s j i ∷ ms)) ≡ suc l
      go true (same w) ms e = absurd (omega arith)
      go false w ms e = ap suc e

  length_from : (l i : ℕ) → i ≤ o → o < i + l → suc (length (others_from s l i j o)) ≡ l
  unfolding others_from
  length_from zero i h k = absurd (omega arith)
  length_from (suc l) i h k = go (eqb i o) (same? i o) (others_from s l (suc i) j o) (length_past l (suc i)) (length_from l (suc i))
    where
      go : (b : Bool) → Same i o b → (ms : List ℕ) → (o < suc i → length ms ≡ l) → (suc i ≤ o → o < suc i + l → suc (length ms) ≡ l)
          → suc (length (cond b ms (slot_at s j i ∷ ms))) ≡ suc l
      go true (same w) ms e d = ap suc (e (omega arith))
      go false (other w) ms e d = ap suc (d (omega arith) (omega arith))

  -- no o among members i to i + k
  at_clear : (l i k : ℕ) → k < l → ((x : ℕ) → i ≤ x → x ≤ i + k → x ≢ o) → at (others_from s l i j o) k ≡ slot_at s j (i + k)
  unfolding others_from
  at_clear zero i k h n = absurd (not-suc-le-zero h)
  at_clear (suc l) i zero h n = go (eqb i o) (same? i o)
    where
      go : (b : Bool) → Same i o b → at (cond b (others_from s l (suc i) j o) (slot_at s j i ∷ others_from s l (suc i) j o)) 0 ≡ slot_at s j (i + 0)
      go true (same e) = absurd (n i (omega arith) (omega arith) e)
      go false e = ap (λ m. slot_at s j m) (sym (add-zero i))
  at_clear (suc l) i (suc k) h n =
      go (eqb i o) (same? i o) (others_from s l (suc i) j o) (at_clear l (suc i) k (le_of_suc-le-suc h) (λ x a b. n x (omega arith) (omega arith)))
    where
      go : (b : Bool) → Same i o b → (ms : List ℕ) → at ms k ≡ slot_at s j (suc i + k)
          → at (cond b ms (slot_at s j i ∷ ms)) (suc k) ≡ slot_at s j (i + suc k)
      go true (same e) ms p = absurd (n i (omega arith) (omega arith) e)
      go false e ms p = p ∙ ap (λ m. slot_at s j m) (suc-add i k ∙ sym (add-suc i k))

  -- o among members i to i + k
  at_from : (l i k : ℕ) → suc k < l → i ≤ o → o ≤ i + k → at (others_from s l i j o) k ≡ slot_at s j (i + suc k)
  unfolding others_from
  at_from zero i k h a b = absurd (not-suc-le-zero h)
  at_from (suc l) i zero h a b = go (eqb i o) (same? i o) (others_from s l (suc i) j o) (at_clear l (suc i) 0 (omega arith) (λ x d e f. omega arith))
    where
      go : (b : Bool) → Same i o b → (ms : List ℕ) → at ms 0 ≡ slot_at s j (suc i + 0) → at (cond b ms (slot_at s j i ∷ ms)) 0 ≡ slot_at s j (i + 1)
      go true e ms p = p ∙ ap (λ m. slot_at s j m) (suc-add i 0 ∙ sym (add-suc i 0))
      go false (other e) ms p = absurd (e (omega arith))
  at_from (suc l) i (suc k) h a b =
      go (eqb i o) (same? i o) (others_from s l (suc i) j o) (λ z. at_clear l (suc i) (suc k) (omega arith) (λ x d e f. omega arith))
      (λ z. at_from l (suc i) k (omega arith) z (omega arith))
    where
      go : (b : Bool) → Same i o b → (ms : List ℕ) → (i ≡ o → at ms (suc k) ≡ slot_at s j (suc i + suc k))
          → (suc i ≤ o → at ms k ≡ slot_at s j (suc i + suc k)) → at (cond b ms (slot_at s j i ∷ ms)) (suc k) ≡ slot_at s j (i + suc (suc k))
      go true (same e) ms p w = p e ∙ ap (λ m. slot_at s j m) (suc-add i (suc k) ∙ sym (add-suc i (suc k)))
      go false (other e) ms p w = w (omega arith) ∙ ap (λ m. slot_at s j m) (suc-add i (suc k) ∙ sym (add-suc i (suc k)))

-- what another place o of the group of p is
pub record Other (s : Shape) (p o : ℕ) : Type 0 where
  pub group_same : group s o ≡ group s p
  pub below : o < room s
  pub other_place : o ≢ p

module _ (s : Shape) (P : Placed s) (p : ℕ) (inside : p < room s) where
  pub length_others : suc (length (others s p)) ≡ size s
  unfolding others
  length_others = length_from s P (group s p) (member s p) (size s) 0 (omega arith) (omega (arith, member_below s P p inside))

  pub others_distinct : Distinct (others s p)
  unfolding others
  others_distinct = distinct_from s P (group s p) (member s p) (size s) 0

  pub others_are : Each (Other s p) (others s p)
  unfolding others
  others_are = each_from s P (group s p) (member s p) (Other s p) (size s) 0 one
    where
      one : (i : ℕ) → 0 ≤ i → i < 0 + size s → i ≢ member s p → Other s p (slot_at s (group s p) i)
      one i a b n =
          let l : i < size s = omega arith in
          let g = group_below s P p inside in
          record {
            group_same = group_slot_at s P (group s p) i g l;
            below = slot_below s P (group s p) i g l;
            other_place = λ e. n (sym (member_slot_at s P (group s p) i g l) ∙ ap (member s) e);
          }

  pub other_is : {o : ℕ} → In o (others s p) → Other s p o
  other_is i = each_at (Other s p) others_are i

  pub others_before : (i : ℕ) → i < member s p → at (others s p) i ≡ slot_at s (group s p) i
  unfolding others
  others_before i h =
      at_clear s P (group s p) (member s p) (size s) 0 i (omega (arith, member_below s P p inside)) (λ x a b e. omega arith)
      ∙ ap (λ m. slot_at s (group s p) m) (zero-add i)

  pub others_after : (i : ℕ) → member s p ≤ i → suc i < size s → at (others s p) i ≡ slot_at s (group s p) (suc i)
  unfolding others
  others_after i h l =
      at_from s P (group s p) (member s p) (size s) 0 i l (omega arith) (omega arith)
      ∙ ap (λ m. slot_at s (group s p) m) (zero-add (suc i))

  -- every other member of the group is listed
  pub others_all : (i : ℕ) → i < size s → i ≢ member s p → In (slot_at s (group s p) i) (others s p)
  others_all i h n = go (dec_lt i (member s p))
    where
      stands : (k : ℕ) → suc k < size s → In (at (others s p) k) (others s p)
      stands k l = each_index (λ m. In m (others s p)) (others s p) (each_intro (λ m. In m (others s p)) (others s p) (λ m j. j)) k (omega (arith, length_others))

      after : (i : ℕ) → i < size s → member s p < i → In (slot_at s (group s p) i) (others s p)
      after zero h l = absurd (not-suc-le-zero l)
      after (suc k) h l = rw (← others_after k (le_of_suc-le-suc l) h) (stands k h)

      go : Dec (i < member s p) → In (slot_at s (group s p) i) (others s p)
      go (yes l) = rw (← others_before i l) (stands i (omega (arith, member_below s P p inside)))
      go (no l) = after i h (omega arith)
