-- The points of the slots, written group by group. Assumes nothing.
--   slot_byte                            the slots of a group are below 256
--   pointed_more, pointed_all            one member more; all slots
use mathlib.Core.Path.{◌≡◌, sym, ap, ap₂, ◌∙◌}
use mathlib.Core.List.{List}
use Prim.Native.Nat.{ℕ, ◌+◌, ◌*◌, ◌/◌, ◌%◌, ◌<◌}
use native.Mathlib.Decide.{ℕ_discrete}
use native.Mathlib.Omega.{arith}
use lib.Arith.{digits_lt, digits_div, digits_mod}
use lib.ListN.{length, set}
use lib.Seq.{get_or-set_same, get_or-set_other}
use Rattle.algebra.specs.Sequence.{at}
use Rattle.code.specs.declared.Shape.{Shape}
use Rattle.code.specs.Shape.{size, groups, room, group, member, slot_at, point_at, point}
use Rattle.code.specs.Laws.{Placed}
use Rattle.code.proofs.Bounds.{room_byte}
use Rattle.code.proofs.Places.{n_room, group_below, member_below, slot_below, slot_group_member, group_slot_at, member_slot_at}
use Rattle.fitting.specs.Step.{Pointed}

module _ (s : Shape) (P : Placed s) where
  pub pointed_all : (xs : List ℕ) → Pointed s (room s) xs → (p : ℕ) → p < s.n → at xs p ≡ point s p
  unfolding room
  pointed_all xs W p h =
      let l : p < room s = omega (arith, n_room s P) in
      W p h (omega (arith, digits_lt (group_below s P p l) (member_below s P p l)))

  -- member i of group j
  module _ (j i : ℕ) (g : j < groups s) (h : i < size s) where
    pub slot_byte : slot_at s j i < 256
    slot_byte = omega (arith, slot_below s P j i g h, room_byte s P)

    point_slot : point s (slot_at s j i) ≡ point_at s j i
    unfolding point
    point_slot = ap₂ (point_at s) (group_slot_at s P j i g h) (member_slot_at s P j i g h)

    -- the one slot of its number
    same_slot : (p : ℕ) → p < s.n → group s p * size s + member s p ≡ j * size s + i → p ≡ slot_at s j i
    same_slot p b e =
        let m = member_below s P p (omega (arith, n_room s P)) in
        sym (slot_group_member s P p)
        ∙ ap₂ (slot_at s) (sym (digits_div (group s p) m) ∙ ap (λ n. n / size s) e ∙ digits_div j h)
        (sym (digits_mod (group s p) m) ∙ ap (λ n. n % size s) e ∙ digits_mod j h)

    pub pointed_more : (x v : ℕ) (xs : List ℕ) → x ≡ slot_at s j i → v ≡ point_at s j i → x < length xs → Pointed s (j * size s + i) xs
        → Pointed s (j * size s + (i + 1)) (set xs x v)
    pointed_more x v xs e d l W p b n = go (ℕ_discrete p x)
      where
        go : Dec (p ≡ x) → at (set xs x v) p ≡ point s p
        go (yes q) = rw q (get_or-set_same xs x v 0 l ∙ d ∙ sym point_slot ∙ ap (point s) (sym e))
        go (no q) =
            get_or-set_other xs x p v 0 q
            ∙ W p b (less (ℕ_discrete (group s p * size s + member s p) (j * size s + i)))
          where
            less : Dec (group s p * size s + member s p ≡ j * size s + i) → group s p * size s + member s p < j * size s + i
            less (yes z) = absurd (q (same_slot p b z ∙ sym e))
            less (no z) = omega arith
