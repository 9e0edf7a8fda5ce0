-- The local pass where groups stand one loss: a group is mended where it has just one, from the lost slot's mates. Assumes nothing.
--   mends_is, mends_of    what the pass asks of a slot that it restores
--   mendable_one    a group is mendable where it has exactly one loss
--   mends_one       a slot that the pass restores is its group's only loss
--   kept_lone       the places that a group with one loss keeps are the others of the lost one
--   restored_first  a sum over places of which the later ones are in no word
--   same_others     words that agree at a slot's mates agree at these places
--   mend_lone       so the pass restores what repair answers
use mathlib.Core.Path.{◌≡◌, refl, sym, ap, ap₂, ◌∙◌}
use mathlib.Core.Bool.{true, cond, ◌&&◌}
use mathlib.Core.List.{List, [], ◌∷◌, map}
use Prim.Native.Nat.{ℕ, zero, suc, ◌+◌, ◌-◌, ◌≤◌, ◌<◌}
use native.Mathlib.Decide.{ℕ_discrete}
use native.Mathlib.Omega.{arith}
use borrow.Author.Tests.{le-leb, lt-leb, eq-eqb, ne_eqb, eqb-true}
use lib.Dec.{leb, eqb}
use lib.ListN.{length, take, drop}
use lib.Seq.{take_all}
use Rattle.algebra.proofs.Booleans.{so, yes_true, and_left, and_right}
use Rattle.algebra.specs.Sequence.{at, Each}
use Rattle.algebra.specs.Interpolation.{weigh}
use Rattle.algebra.proofs.At.{at_past}
use Rattle.algebra.proofs.Each.{each_intro, each_at, map_each, each_of_map}
use Rattle.algebra.proofs.Counting.{count_one}
use Rattle.field.specs.Field.{q, plus, times}
use Rattle.field.specs.Polynomial.{dotted}
use Rattle.field.proofs.Elem.{field_of, zero_below, times_zero, zero_plus}
use Rattle.code.specs.declared.Shape.{Shape}
use Rattle.code.specs.Shape.{size, room, group, member, members, slot_at, point, others_from, others, mates}
use Rattle.code.specs.Decoding.{lost}
use Rattle.code.specs.Erasure.{group_losses, stands}
use Rattle.code.specs.Repair.{weight_over, weights_over, restored, repaired, symbols_of}
use Rattle.code.specs.Held.{held}
use Rattle.code.specs.Pass.{kept_from, kept_places, sources, mendable, repairs, mends, mend}
use Rattle.code.specs.Laws.{Placed, Mending}
use Rattle.code.proofs.Places.{n_room, member_below, slot_group_member}
use Rattle.code.proofs.Others.{length_others}
use Rattle.code.proofs.Mates.{mates_behind}
use Rattle.code.proofs.Fronts.{each_both}
use Rattle.code.proofs.Points.{locator}
use Rattle.code.proofs.Weights.{weigh_is}

between : (n : ℕ) → leb 1 n && leb n 1 ≡ eqb n 1
between zero = refl
between (suc zero) = refl
between (suc (suc n)) = rw (le-leb 1 (suc (suc n)) (omega arith), lt-leb (suc (suc n)) 1 (omega arith), ne_eqb (suc (suc n)) 1 (λ e. omega arith)) refl

pub record Mends (s : Shape) (ws ms : List ℕ) (p : ℕ) : Type 0 where
  pub lost_is : lost ms p ≡ true
  pub mendable_is : mendable s ms (group s p) ≡ true
  pub held_is : held s (kept_places s ms (group s p)) (symbols_of ws (kept_places s ms (group s p))) ≡ true

module _ (s : Shape) (ws ms : List ℕ) (p : ℕ) where
  pub mends_is : mends s ws ms p ≡ true → Mends s ws ms p
  unfolding mends repairs
  mends_is e =
      let j : ℕ = group s p in
      let a = lost ms p in
      let b = mendable s ms j in
      let c = held s (kept_places s ms j) (symbols_of ws (kept_places s ms j)) in
      let t = and_right a (b && c) (so e) in
      record { lost_is = yes_true a (and_left a (b && c) (so e)); mendable_is = yes_true b (and_left b c t); held_is = yes_true c (and_right b c t) }

  pub mends_of : Mends s ws ms p → mends s ws ms p ≡ true
  unfolding mends repairs
  mends_of M = rw (M.lost_is, M.mendable_is, M.held_is) refl

module _ (s : Shape) (one : s.tolerance ≡ 1) (ms : List ℕ) where
  pub mendable_one : (j : ℕ) → mendable s ms j ≡ eqb (group_losses s j ms) 1
  unfolding mendable stands
  mendable_one j = ap (λ t. leb 1 (group_losses s j ms) && leb (group_losses s j ms) t) one ∙ between (group_losses s j ms)

  pub mends_one : (ws : List ℕ) (p : ℕ) → mends s ws ms p ≡ true → (lost ms p ≡ true) × (group_losses s (group s p) ms ≡ 1)
  mends_one ws p e =
      let r = mends_is s ws ms p e in (r.lost_is, eqb-true (group_losses s (group s p) ms) 1 (sym (mendable_one (group s p)) ∙ r.mendable_is))

-- members are lost just where they are o
kept_others : (s : Shape) (ms : List ℕ) (j o l i : ℕ) → ((m : ℕ) → i ≤ m → m < i + l → lost ms (slot_at s j m) ≡ eqb m o)
    → kept_from s ms l i j ≡ others_from s l i j o
unfolding kept_from others_from
kept_others s ms j o zero i h = refl
kept_others s ms j o (suc l) i h =
    ap₂ (λ b os. cond b os (slot_at s j i ∷ os)) (h i (omega arith) (omega arith))
    (kept_others s ms j o l (suc i) (λ m a b. h m (omega arith) (omega arith)))

module _ (s : Shape) (P : Placed s) (ms : List ℕ) (p : ℕ) (roomy : p < room s) where
  pub kept_lone : lost ms p ≡ true → group_losses s (group s p) ms ≡ 1 → kept_places s ms (group s p) ≡ others s p
  unfolding kept_places others group_losses
  kept_lone t e = kept_others s ms (group s p) (member s p) (size s) 0 (λ m a b. go m (omega arith) (ℕ_discrete m (member s p)))
    where
      own : lost ms (slot_at s (group s p) (member s p)) ≡ true
      own = ap (lost ms) (slot_group_member s P p) ∙ t

      go : (m : ℕ) → m < size s → Dec (m ≡ member s p) → lost ms (slot_at s (group s p) m) ≡ eqb m (member s p)
      go m h (yes d) = ap (λ i. lost ms (slot_at s (group s p) i)) d ∙ own ∙ sym (eq-eqb m (member s p) d)
      go m h (no d) =
          count_one (λ i. lost ms (slot_at s (group s p) i)) (size s) (member s p) m e (member_below s P p roomy) h own d
          ∙ sym (ne_eqb m (member s p) d)

-- a sum over places of which the later ones hold 0
module _ (s : Shape) (p : ℕ) (os : List ℕ) where
  abbrev f : ℕ
  f = s.field

  weight : ℕ → ℕ
  weight m = weight_over s (point s p) (point s m) m os

  weight_below : (m : ℕ) → weight m < q f
  unfolding weight
  weight_below m = rw (← weigh_is s p m os) (weigh (field_of f) (locator s) (locator s p) (locator s m) m os).1

  sum_none : (v : ℕ → ℕ) (ms : List ℕ) → Each (λ m. v m ≡ 0) ms → dotted f (map weight ms) (map v ms) ≡ 0
  unfolding dotted
  sum_none v [] e = refl
  sum_none v (m ∷ ms) e =
      ap₂ (plus f) (ap (times f (weight m)) e.0 ∙ times_zero f (weight m) (weight_below m)) (sum_none v ms e.1) ∙ zero_plus f 0 (zero_below f)

  sum_front : (v : ℕ → ℕ) (k : ℕ) (ms : List ℕ) → Each (λ m. v m ≡ 0) (drop k ms)
      → dotted f (map weight ms) (map v ms) ≡ dotted f (map weight (take k ms)) (map v (take k ms))
  unfolding dotted
  sum_front v zero ms e = sum_none v ms e
  sum_front v (suc k) [] e = refl
  sum_front v (suc k) (m ∷ ms) e = ap (plus f (times f (weight m) (v m))) (sum_front v k ms e)

  pub restored_first : (ws : List ℕ) (k : ℕ) → Each (λ o. length ws ≤ o) (drop k os)
      → restored s os os p (symbols_of ws os) ≡ restored s os (take k os) p (symbols_of ws (take k os))
  unfolding restored weights_over symbols_of weight
  restored_first ws k e =
      sum_front (at ws) k os (each_intro (λ m. at ws m ≡ 0) (drop k os) (λ m i. at_past ws m (each_at (λ o. length ws ≤ o) e i)))

module _ (s : Shape) (M : Mending s) (p : ℕ) (inside : p < s.n) where
  abbrev P : Placed s
  P = M.placed

  roomy : p < room s
  roomy = omega (arith, n_room s P)

  others_number : length (others s p) ≡ s.r
  unfolding size
  others_number = omega (arith, length_others s P p roomy, M.one)

  -- no place behind the mates is in a word
  behind : (ws : List ℕ) → length ws ≡ s.n → Each (λ o. length ws ≤ o) (drop (members s (group s p) - 1) (others s p))
  behind ws l = rw l (mates_behind s P p inside)

  -- words that agree at the mates agree at all other places of the group
  pub same_others : (ws cs : List ℕ) → length ws ≡ s.n → length cs ≡ s.n → symbols_of ws (mates s p) ≡ symbols_of cs (mates s p)
      → symbols_of ws (others s p) ≡ symbols_of cs (others s p)
  unfolding symbols_of mates
  same_others ws cs l d e =
      map_each (at ws) (at cs) (others s p)
      (each_both (λ o. at ws o ≡ at cs o) k (others s p) (each_of_map (at ws) (at cs) (take k (others s p)) e)
      (each_intro (λ o. at ws o ≡ at cs o) (drop k (others s p))
      (λ o i. at_past ws o (each_at (λ o. length ws ≤ o) (behind ws l) i) ∙ sym (at_past cs o (each_at (λ o. length cs ≤ o) (behind cs d) i)))))
    where
      k : ℕ
      k = members s (group s p) - 1

  module _ (ms : List ℕ) (t : lost ms p ≡ true) (e : group_losses s (group s p) ms ≡ 1) where
    pub mend_lone : (ws : List ℕ) → length ws ≡ s.n → mend s ws ms p ≡ repaired s p (symbols_of ws (mates s p))
    unfolding mend sources repaired mates
    mend_lone ws l =
        ap (λ os. restored s os os p (symbols_of ws os))
        (ap (take s.r) (kept_lone s P ms p roomy t e) ∙ take_all s.r (others s p) (omega (arith, others_number)))
        ∙ restored_first s p (others s p) ws (members s (group s p) - 1) (behind ws l)
