-- A slot's mates: the other members of its group that are slots, and behind them those that are none. Assumes nothing.
--   member_slot                  a member of a group is a slot just where it is below members
--   members_are, members_least   how many are slots, by which are; at least one
--   members_whole                all of a whole group are
--   length_mates, mates_distinct, mate_other, mates_below, mate_below, mates_behind
--   mates_before, mates_after    mate i is member i of the group, or i + 1 from the slot on
--   mates_number_is, mates_number_none, mates_whole    how many symbols repair is handed
--   mates_full, mates_last       how many mates a slot of a whole group has, and one of a short last group
--   length_symbols, at_symbols   a word's symbols at some slots
use mathlib.Core.Path.{◌≡◌, refl, ap, ◌∙◌}
use mathlib.Core.Bool.{Bool, true, false, cond}
use mathlib.Core.List.{List}
use Prim.Native.Nat.{ℕ, suc, ◌+◌, ◌*◌, ◌-◌, ◌/◌, ◌%◌, ◌≤◌, ◌<◌}
use native.Mathlib.Nat.{div-add-mod', mod-lt, div-lt_iff_lt-mul, mul-le-mul_right}
use native.Mathlib.Decide.{dec_lt, ℕ_discrete}
use native.Mathlib.Omega.{arith}
use borrow.Author.Tests.{lt-ltb, le-ltb}
use lib.Arith.{digits_div}
use lib.Dec.{ltb, ltb→lt, lt→ltb}
use lib.ListN.{length, length-map, length-drop, drop}
use lib.Seq.{length-take-le, get_or-take, get_or-drop}
use Rattle.algebra.specs.Sequence.{at, Each, Distinct, In}
use Rattle.algebra.proofs.Booleans.{so, yes_true}
use Rattle.algebra.proofs.Each.{each_at}
use Rattle.algebra.proofs.At.{at_map}
use Rattle.algebra.proofs.Counting.{count_all, count_most, count_same}
use Rattle.algebra.proofs.Leading.{leading_in, leading_out}
use Rattle.code.specs.declared.Shape.{Shape}
use Rattle.code.specs.Shape.{size, groups, room, whole, wired, group, member, members, slot_at, others, mates, mates_number}
use Rattle.code.specs.Repair.{symbols_of}
use Rattle.code.specs.Laws.{Placed}
use Rattle.code.proofs.Places.{slot_at_is, size_least, n_room, room_less, whole_multiple, group_below, member_below, slot_group_member, slot_at_later, slot_inside}
use Rattle.code.proofs.Fronts.{each_of_index, in_take, distinct_take}
use Rattle.code.proofs.Others.{length_others, others_distinct, others_before, others_after}

module _ (s : Shape) (P : Placed s) where
  module _ (j : ℕ) where
    slots : ℕ → Bool
    slots i = ltb (slot_at s j i) s.n

    slots_down : (i o : ℕ) → i ≤ o → slots o ≡ true → slots i ≡ true
    unfolding slots
    slots_down i o h e = yes_true (ltb (slot_at s j i) s.n) (lt→ltb (slot_at s j i) s.n (go (ℕ_discrete i o)))
      where
        below : slot_at s j o < s.n
        below = ltb→lt (slot_at s j o) s.n (so e)

        go : Dec (i ≡ o) → slot_at s j i < s.n
        go (yes d) = rw d below
        go (no d) = omega (arith, slot_at_later s P j i o (omega arith), below)

    pub member_slot : (i : ℕ) → i < members s j → slot_at s j i < s.n
    unfolding members slots
    member_slot i h = ltb→lt (slot_at s j i) s.n (so (leading_in slots slots_down (size s) i h))

    pub slot_member : (i : ℕ) → i < size s → slot_at s j i < s.n → i < members s j
    unfolding members slots
    slot_member i h l = leading_out slots slots_down (size s) i h (yes_true (slots i) (lt→ltb (slot_at s j i) s.n l))

    pub members_most : members s j ≤ size s
    unfolding members
    members_most = count_most (λ i. ltb (slot_at s j i) s.n) (size s)

    -- they are the first m where just those are slots
    pub members_are : (m : ℕ) → m ≤ size s → ((i : ℕ) → i < m → slot_at s j i < s.n) → ((i : ℕ) → m ≤ i → i < size s → s.n ≤ slot_at s j i) → members s j ≡ m
    members_are m h inside outside = go (dec_lt m (members s j)) (dec_lt (members s j) m)
      where
        go : Dec (m < members s j) → Dec (members s j < m) → members s j ≡ m
        go (yes l) d = absurd (omega (arith, member_slot m l, outside m (omega arith) (omega (arith, members_most))))
        go (no l) (yes d) = absurd (omega (arith, slot_member (members s j) (omega arith) (inside (members s j) d)))
        go (no l) (no d) = omega arith

    -- the first member of every group is a slot
    pub first_inside : j < groups s → slot_at s j 0 < s.n
    unfolding room
    first_inside h = go (wired s) refl
      where
        go : (b : Bool) → wired s ≡ b → slot_at s j 0 < s.n
        go true w = slot_inside s P (P.wired_whole w) j 0 h (size_least s P)
        go false w = rw (slot_at_is s j 0, w) (omega (arith, mul-le-mul_right (size s) h, room_less s P))

    pub members_least : j < groups s → 1 ≤ members s j
    members_least h = slot_member 0 (size_least s P) (first_inside h)

    pub members_whole : j < groups s → whole s ≡ true → members s j ≡ size s
    unfolding members
    members_whole h w =
        count_same (λ i. ltb (slot_at s j i) s.n) (λ i. true) (size s)
        (λ i l. yes_true (ltb (slot_at s j i) s.n) (lt→ltb (slot_at s j i) s.n (slot_inside s P w j i h l)))
        ∙ count_all (size s)

  module _ (p : ℕ) (inside : p < s.n) where
    abbrev j : ℕ
    j = group s p

    roomy : p < room s
    roomy = omega (arith, n_room s P)

    pub member_own : member s p < members s (group s p)
    member_own = slot_member j (member s p) (member_below s P p roomy) (rw (slot_group_member s P p) inside)

    pub length_mates : suc (length (mates s p)) ≡ members s (group s p)
    unfolding mates
    length_mates =
        omega (arith, length-take-le (members s j - 1) (others s p) (omega (arith, length_others s P p roomy, members_most j)), member_own)

    pub mates_distinct : Distinct (mates s p)
    unfolding mates
    mates_distinct = distinct_take (members s j - 1) (others s p) (others_distinct s P p roomy)

    pub mate_other : {m : ℕ} → In m (mates s p) → In m (others s p)
    unfolding mates
    mate_other i = in_take (members s j - 1) (others s p) i

    pub mates_before : (i : ℕ) → i < member s p → at (mates s p) i ≡ slot_at s (group s p) i
    unfolding mates
    mates_before i h = get_or-take (members s j - 1) (others s p) i 0 (omega (arith, member_own)) ∙ others_before s P p roomy i h

    pub mates_after : (i : ℕ) → member s p ≤ i → suc i < members s (group s p) → at (mates s p) i ≡ slot_at s (group s p) (suc i)
    unfolding mates
    mates_after i h l =
        get_or-take (members s j - 1) (others s p) i 0 (omega (arith, member_own)) ∙ others_after s P p roomy i h (omega (arith, members_most j))

    pub mates_below : Each (λ m. m < s.n) (mates s p)
    mates_below = each_of_index (λ m. m < s.n) (mates s p) (λ i l. go i (omega (arith, length_mates)) (dec_lt i (member s p)))
      where
        go : (i : ℕ) → suc i < members s j → Dec (i < member s p) → at (mates s p) i < s.n
        go i l (yes d) = rw (mates_before i d) (member_slot j i (omega arith))
        go i l (no d) = rw (mates_after i (omega arith) l) (member_slot j (suc i) l)

    pub mate_below : {m : ℕ} → In m (mates s p) → m < s.n
    mate_below i = each_at (λ m. m < s.n) mates_below i

    -- the others behind the mates are no slots
    pub mates_behind : Each (λ o. s.n ≤ o) (drop (members s (group s p) - 1) (others s p))
    mates_behind =
        each_of_index (λ o. s.n ≤ o) (drop (members s j - 1) (others s p))
        (λ i l. let k : ℕ = members s j - 1 + i in
        let b : suc k < size s = omega (arith, length-drop (members s j - 1) (others s p), length_others s P p roomy) in
        rw (get_or-drop (members s j - 1) (others s p) i 0, others_after s P p roomy k (omega (arith, member_own)) b)
        (late (suc k) b (omega (arith, member_own)) (dec_lt (slot_at s j (suc k)) s.n)))
      where
        late : (i : ℕ) → i < size s → members s j ≤ i → Dec (slot_at s j i < s.n) → s.n ≤ slot_at s j i
        late i b l (yes d) = absurd (omega (arith, slot_member j i b d))
        late i b l (no d) = omega arith

-- a word's symbols at some slots
pub length_symbols : (ws ps : List ℕ) → length (symbols_of ws ps) ≡ length ps
unfolding symbols_of
length_symbols ws ps = length-map ps (at ws)

pub at_symbols : (ws ps : List ℕ) (i : ℕ) → i < length ps → at (symbols_of ws ps) i ≡ at ws (at ps i)
unfolding symbols_of
at_symbols ws ps i h = at_map (at ws) ps i h

-- the symbols that repair is handed, one for each mate
pub mates_number_is : (s : Shape) (p : ℕ) → p < s.n → mates_number s p ≡ length (mates s p)
unfolding mates_number
mates_number_is s p h = rw (lt-ltb p s.n h) refl

pub mates_number_none : (s : Shape) (p : ℕ) → s.n ≤ p → mates_number s p ≡ size s - 1
unfolding mates_number
mates_number_none s p h = rw (le-ltb p s.n h) refl

-- in whole groups size - 1
pub mates_whole : (s : Shape) → Placed s → whole s ≡ true → (p : ℕ) → p < s.n → length (mates s p) ≡ size s - 1
mates_whole s P w p h = omega (arith, length_mates s P p h, members_whole s P (group s p) (group_below s P p (omega (arith, n_room s P))) w)

-- where n is no multiple of the size, the slots behind the last multiple are the last group
module _ (s : Shape) (P : Placed s) (p : ℕ) (h : p < s.n) where
  abbrev rest : ℕ
  rest = s.n % size s

  parts : s.n / size s * size s + rest ≡ s.n
  parts = div-add-mod' s.n (size s)

  place_of : wired s ≡ false → (i : ℕ) → slot_at s (group s p) i ≡ p / size s * size s + i
  unfolding group
  place_of w i = slot_at_is s (group s p) i ∙ ap (λ b. cond b (i * groups s + cond b (p % groups s) (p / size s)) (cond b (p % groups s) (p / size s) * size s + i)) w

  flat_whole : wired s ≡ false → p < s.n - rest → members s (group s p) ≡ size s
  flat_whole w l =
      let z = size_least s P in
      let a : p / size s < s.n / size s = (div-lt_iff_lt-mul {k = size s} {x = p} {y = s.n / size s} z).1 (omega (arith, parts)) in
      members_are s P (group s p) (size s) (omega arith)
      (λ i b. omega (arith, place_of w i, mul-le-mul_right (size s) a, parts)) (λ i b d. absurd (omega arith))

  flat_last : wired s ≡ false → s.n - rest ≤ p → members s (group s p) ≡ rest
  flat_last w l =
      let z = size_least s P in
      let m = mod-lt s.n z in
      let d : p - s.n / size s * size s < size s = omega (arith, parts, m) in
      let e : p ≡ s.n / size s * size s + (p - s.n / size s * size s) = omega (arith, parts) in
      let a : p / size s ≡ s.n / size s = ap (λ n. n / size s) e ∙ digits_div (s.n / size s) d in
      let b = ap (λ n. n * size s) a in
      members_are s P (group s p) rest (omega (arith, m)) (λ i k. omega (arith, place_of w i, b, parts)) (λ i k o. omega (arith, place_of w i, b, parts))

  pub mates_full : p < s.n - s.n % size s → length (mates s p) + 1 ≡ size s
  mates_full l = go (wired s) refl
    where
      go : (b : Bool) → wired s ≡ b → length (mates s p) + 1 ≡ size s
      go true w =
          omega (arith, length_mates s P p h, members_whole s P (group s p) (group_below s P p (omega (arith, n_room s P))) (P.wired_whole w))
      go false w = omega (arith, length_mates s P p h, flat_whole w l)

  pub mates_last : s.n - s.n % size s ≤ p → length (mates s p) + 1 ≡ s.n % size s
  mates_last l = go (wired s) refl
    where
      go : (b : Bool) → wired s ≡ b → length (mates s p) + 1 ≡ s.n % size s
      go true w = absurd (omega (arith, whole_multiple s P (P.wired_whole w)))
      go false w = omega (arith, length_mates s P p h, flat_last w l)
