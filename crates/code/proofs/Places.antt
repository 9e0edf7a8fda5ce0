-- Places by group and member, for either wiring: what all else rests on. Assumes nothing.
--   slot_at_is                                     the two forms of a place
--   size_least, groups_least, n_room, slot_room, k_room, room_less, missing_less    the numbers of a placed shape
--   group_below, member_below, slot_below          a place's group and member, and back
--   slot_group_member, group_slot_at, member_slot_at
--   same_place, slot_at_later, slot_at_injective   one place by its group and member; the members in order
--   whole_yes, whole_no                            whole groups: no place is missing
--   whole_room, whole_multiple, slot_inside, remainder             whole groups: every place is a slot; a short one: how many are
--   missing_inside, not_wired, group_last          a short one: wiring is not 1, and the missing places are of the last group
use mathlib.Core.Path.{◌≡◌, refl, sym, ap, ap₂, ◌∙◌}
use mathlib.Core.Logic.{◌≢◌}
use mathlib.Core.Bool.{Bool, true, false, cond}
use Prim.Native.Nat.{ℕ, zero, suc, ◌+◌, ◌*◌, ◌-◌, ◌/◌, ◌%◌, ◌≤◌, ◌<◌}
use native.Mathlib.Nat.{div-add-mod', div-mul-le_self, div-lt_iff_lt-mul, le-div_iff_mul-le, mod-lt, mul_comm, mul-le-mul_right}
use native.Mathlib.Decide.{dec_lt}
use native.Mathlib.Omega.{arith}
use borrow.Author.Tests.{eq-eqb, ne_eqb}
use lib.Arith.{digits_lt, digits_div, digits_mod}
use lib.Dec.{eqb→eq}
use Rattle.algebra.proofs.Booleans.{so}
use Rattle.code.specs.declared.Shape.{Shape}
use Rattle.code.specs.Shape.{ceiling, size, groups, room, missing, whole, wired, group, member, first, step, slot_at}
use Rattle.code.specs.Laws.{Placed}

-- the two forms of a place
pub slot_at_is : (s : Shape) (j i : ℕ) → slot_at s j i ≡ cond (wired s) (i * groups s + j) (j * size s + i)
unfolding slot_at first step
slot_at_is s j i = go (wired s)
  where
    go : (b : Bool) → cond b j (j * size s) + i * cond b (groups s) 1 ≡ cond b (i * groups s + j) (j * size s + i)
    go true = omega arith
    go false = omega arith

-- no place is missing, or some are
pub whole_yes : (s : Shape) → missing s ≡ 0 → whole s ≡ true
unfolding whole
whole_yes s e = eq-eqb (missing s) 0 e

pub whole_no : (s : Shape) → missing s ≢ 0 → whole s ≡ false
unfolding whole
whole_no s n = ne_eqb (missing s) 0 n

module _ (s : Shape) (P : Placed s) where
  pub size_least : 0 < size s
  unfolding size
  size_least = omega (arith, P.r_least)

  pub n_room : s.n ≤ room s
  unfolding room groups ceiling
  n_room =
      omega (arith, div-add-mod' (s.n + size s - 1) (size s), mod-lt (s.n + size s - 1) size_least, size_least)

  pub slot_room : (p : ℕ) → p < s.n → p < room s
  slot_room p h = omega (arith, n_room)

  pub k_room : s.k + s.tolerance * groups s ≤ s.n → s.k + missing s + s.tolerance * groups s ≤ room s
  unfolding missing
  k_room h = omega (arith, n_room)

  pub room_less : room s < s.n + size s
  unfolding room groups ceiling
  room_less = omega (arith, div-mul-le_self (s.n + size s - 1) (size s), size_least)

  pub missing_less : missing s < size s
  unfolding missing
  missing_less = omega (arith, room_less, size_least)

  pub groups_least : 0 < groups s
  unfolding room
  groups_least = go (groups s) n_room
    where
      go : (g : ℕ) → s.n ≤ g * size s → 0 < g
      go zero h = absurd (omega (arith, P.n_least))
      go (suc g) h = omega arith

  module _ (p : ℕ) (h : p < room s) where
    pub group_below : group s p < groups s
    unfolding group room
    group_below = go (wired s)
      where
        go : (b : Bool) → cond b (p % groups s) (p / size s) < groups s
        go true = mod-lt p groups_least
        go false = (div-lt_iff_lt-mul {k = size s} {x = p} {y = groups s} size_least).1 h

    pub member_below : member s p < size s
    unfolding member room
    member_below = go (wired s)
      where
        go : (b : Bool) → cond b (p / groups s) (p % size s) < size s
        go true = (div-lt_iff_lt-mul {k = groups s} {x = p} {y = size s} groups_least).1 (omega (arith, mul_comm (groups s) (size s)))
        go false = mod-lt p size_least

  pub slot_group_member : (p : ℕ) → slot_at s (group s p) (member s p) ≡ p
  unfolding group member
  slot_group_member p = slot_at_is s (group s p) (member s p) ∙ go (wired s)
    where
      go : (b : Bool) → cond b (cond b (p / groups s) (p % size s) * groups s + cond b (p % groups s) (p / size s))
          (cond b (p % groups s) (p / size s) * size s + cond b (p / groups s) (p % size s)) ≡ p
      go true = div-add-mod' p (groups s)
      go false = div-add-mod' p (size s)

  module _ (j i : ℕ) (g : j < groups s) (h : i < size s) where
    pub group_slot_at : group s (slot_at s j i) ≡ j
    unfolding group
    group_slot_at = ap (group s) (slot_at_is s j i) ∙ go (wired s)
      where
        go : (b : Bool) → cond b (cond b (i * groups s + j) (j * size s + i) % groups s) (cond b (i * groups s + j) (j * size s + i) / size s) ≡ j
        go true = digits_mod i g
        go false = digits_div j h

    pub member_slot_at : member s (slot_at s j i) ≡ i
    unfolding member
    member_slot_at = ap (member s) (slot_at_is s j i) ∙ go (wired s)
      where
        go : (b : Bool) → cond b (cond b (i * groups s + j) (j * size s + i) / groups s) (cond b (i * groups s + j) (j * size s + i) % size s) ≡ i
        go true = digits_div i g
        go false = digits_mod j h

    pub slot_below : slot_at s j i < room s
    unfolding room
    slot_below = rw (slot_at_is s j i) (go (wired s))
      where
        go : (b : Bool) → cond b (i * groups s + j) (j * size s + i) < groups s * size s
        go true = omega (arith, digits_lt h g, mul_comm (groups s) (size s))
        go false = digits_lt g h

  pub same_place : (p o : ℕ) → group s p ≡ group s o → member s p ≡ member s o → p ≡ o
  same_place p o d m = sym (slot_group_member p) ∙ ap₂ (slot_at s) d m ∙ slot_group_member o

  -- the members of a group in order
  pub slot_at_later : (j i o : ℕ) → i < o → slot_at s j i < slot_at s j o
  slot_at_later j i o h = rw (slot_at_is s j i, slot_at_is s j o) (go (wired s))
    where
      go : (b : Bool) → cond b (i * groups s + j) (j * size s + i) < cond b (o * groups s + j) (j * size s + o)
      go true = omega (arith, mul-le-mul_right (groups s) h, groups_least)
      go false = omega arith

  pub slot_at_injective : (j i o : ℕ) → slot_at s j i ≡ slot_at s j o → i ≡ o
  slot_at_injective j i o e = go (dec_lt i o) (dec_lt o i)
    where
      go : Dec (i < o) → Dec (o < i) → i ≡ o
      go (yes h) d = absurd (omega (arith, slot_at_later j i o h))
      go (no h) (yes d) = absurd (omega (arith, slot_at_later j o i d))
      go (no h) (no d) = omega arith

  pub whole_room : whole s ≡ true → room s ≡ s.n
  unfolding whole missing
  whole_room e = omega (arith, eqb→eq (room s - s.n) 0 (so e), n_room)

  pub whole_multiple : whole s ≡ true → s.n % size s ≡ 0
  unfolding room
  whole_multiple w = let e : s.n ≡ groups s * size s + 0 = omega (arith, whole_room w) in ap (λ n. n % size s) e ∙ digits_mod (groups s) size_least

  -- so every member of a group is a slot
  pub slot_inside : whole s ≡ true → (j i : ℕ) → j < groups s → i < size s → slot_at s j i < s.n
  slot_inside e j i g h = omega (arith, slot_below j i g h, whole_room e)

  -- a short last group has the remainder
  pub remainder : whole s ≡ false → s.n % size s + missing s ≡ size s
  unfolding whole missing room
  remainder w =
      omega (arith, ap (λ n. n % size s) parts, digits_mod (groups s - 1) less, room_less)
    where
      some : groups s * size s - s.n ≢ 0
      some z = absurd (so (sym w ∙ eq-eqb (groups s * size s - s.n) 0 z))

      less : size s - (groups s * size s - s.n) < size s
      less = omega (arith, some, size_least)

      e : groups s ≡ suc (groups s - 1)
      e = omega (arith, groups_least)

      parts : s.n ≡ (groups s - 1) * size s + (size s - (groups s * size s - s.n))
      parts = omega (arith, ap (λ n. n * size s) e, room_less, n_room)

  -- its missing places
  pub missing_inside : (i : ℕ) → i < missing s → s.n + i < room s
  unfolding missing
  missing_inside i h = omega (arith, n_room)

  pub not_wired : whole s ≡ false → wired s ≡ false
  not_wired short = go (wired s) refl
    where
      go : (b : Bool) → wired s ≡ b → b ≡ false
      go true e = sym (P.wired_whole e) ∙ short
      go false e = refl

  pub group_last : whole s ≡ false → (p : ℕ) → s.n ≤ p → p < room s → group s p ≡ groups s - 1
  unfolding group room
  group_last short p h l =
      let e : groups s ≡ suc (groups s - 1) = omega (arith, groups_least) in
      let a : p / size s < groups s = (div-lt_iff_lt-mul {k = size s} {x = p} {y = groups s} size_least).1 l in
      let b : groups s - 1 ≤ p / size s =
      (le-div_iff_mul-le {k = size s} {x = groups s - 1} {y = p} size_least).1 (omega (arith, room_less, ap (λ n. n * size s) e))
      in
      ap (λ w. cond w (p % groups s) (p / size s)) (not_wired short) ∙ omega arith
