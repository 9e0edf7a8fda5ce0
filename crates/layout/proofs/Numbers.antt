-- Numbers of the layout that its functions work out. Assumes nothing.
--   wired_yes, wired_no    what the wiring says
--   group_is, member_is, first_is, step_is, slot_is    the definitions over numbers that were worked out
--   point_power_below, group_exponent    the exponents of a member's point and of a group's constant are below q - 1
--   worked_below, worked_point    the same, and the point, by a width that was worked out
--   mate_size, mate_is, mate_slot    a mate by its member
--   group_starts, members_left, members_full    a group's members under wiring 0
--   steps_round, steps_below         a mate by the steps from the slot's member on
use mathlib.Core.Path.{◌≡◌, sym, ap, ap₂, ◌∙◌}
use mathlib.Core.Logic.{◌≢◌, ◌⊎◌, inl, inr}
use mathlib.Core.Bool.{Bool, true, false, cond}
use Prim.Native.Nat.{ℕ, suc, ◌+◌, ◌*◌, ◌-◌, ◌/◌, ◌%◌, ◌≤◌, ◌<◌}
use native.Mathlib.Nat.{mul-le-mul_right}
use native.Mathlib.Decide.{dec_lt}
use native.Mathlib.Omega.{arith}
use borrow.Author.Tests.{eq-eqb, ne_eqb, lt-ltb, le-ltb}
use lib.ListN.{length}
use Rattle.algebra.specs.Sequence.{at}
use Rattle.algebra.proofs.Each.{each_index}
use Rattle.field.specs.Field.{q, γ, power}
use Rattle.code.specs.declared.Shape.{Shape}
use Rattle.code.specs.Shape.{size, groups, room, wired, group, member, first, step, members, slot_at, point_at, mates}
use Rattle.code.specs.Laws.{Placed}
use Rattle.code.proofs.Places.{size_least, slot_at_is, slot_below, group_slot_at, member_slot_at}
use Rattle.code.proofs.Bounds.{room_byte}
use Rattle.code.proofs.Points.{exponent_below}
use Rattle.code.proofs.Mates.{members_are, first_inside, members_most, length_mates, mates_before, mates_after, mates_below}
use Rattle.layout.specs.Step.{mate_member, mate_steps}

module _ (s : Shape) where
  pub wired_yes : s.wiring ≡ 1 → wired s ≡ true
  unfolding wired
  wired_yes e = eq-eqb s.wiring 1 e

  pub wired_no : s.wiring ≢ 1 → wired s ≡ false
  unfolding wired
  wired_no e = ne_eqb s.wiring 1 e

  pub group_is : (b : Bool) → wired s ≡ b → (p g t : ℕ) → g ≡ groups s → t ≡ size s → cond b (p % g) (p / t) ≡ group s p
  unfolding group
  group_is b e p g t d z = ap₂ (λ g t. cond b (p % g) (p / t)) d z ∙ ap (λ b. cond b (p % groups s) (p / size s)) (sym e)

  pub member_is : (b : Bool) → wired s ≡ b → (p g t : ℕ) → g ≡ groups s → t ≡ size s → cond b (p / g) (p % t) ≡ member s p
  unfolding member
  member_is b e p g t d z = ap₂ (λ g t. cond b (p / g) (p % t)) d z ∙ ap (λ b. cond b (p / groups s) (p % size s)) (sym e)

  pub first_is : (b : Bool) → wired s ≡ b → (j t : ℕ) → t ≡ size s → cond b j (j * t) ≡ first s j
  unfolding first
  first_is b e j t z = ap (λ t. cond b j (j * t)) z ∙ ap (λ b. cond b j (j * size s)) (sym e)

  pub step_is : (b : Bool) → wired s ≡ b → (g : ℕ) → g ≡ groups s → cond b g 1 ≡ step s
  unfolding step
  step_is b e g d = ap (λ g. cond {A = ℕ} b g 1) d ∙ ap (λ b. cond {A = ℕ} b (groups s) 1) (sym e)

  pub slot_is : (j i f t : ℕ) → f ≡ first s j → t ≡ step s → f + i * t ≡ slot_at s j i
  unfolding slot_at
  slot_is j i f t e d = ap₂ (λ f t. f + i * t) e d

pub worked_point : (s : Shape) (j i w : ℕ) → w ≡ (q s.field - 1) / size s → power s.field γ (j + i * w) ≡ point_at s j i
unfolding point_at
worked_point s j i w e = ap (λ w. power s.field γ (j + i * w)) e

module _ (t o i : ℕ) (h : o < t) where
  pub steps_round : (mate_steps t o i + o ≡ mate_member o i) ⊎ (mate_steps t o i + o ≡ mate_member o i + t)
  unfolding mate_steps mate_member
  steps_round = go (dec_lt i o)
    where
      go : Dec (i < o) → (mate_steps t o i + o ≡ mate_member o i) ⊎ (mate_steps t o i + o ≡ mate_member o i + t)
      go (yes a) = inr (rw (lt-ltb i o a) (omega arith))
      go (no a) = inl (rw (le-ltb i o (omega arith)) (omega arith))

  pub steps_below : suc i < t → mate_steps t o i < t
  unfolding mate_steps
  steps_below l = go (dec_lt i o)
    where
      go : Dec (i < o) → mate_steps t o i < t
      go (yes a) = rw (lt-ltb i o a) (omega arith)
      go (no a) = rw (le-ltb i o (omega arith)) (omega arith)

module _ (s : Shape) (P : Placed s) where
  pub slot_byte : (j i : ℕ) → j < groups s → i < size s → slot_at s j i < 255
  slot_byte j i g h = omega (arith, slot_below s P j i g h, room_byte s P)

  pub point_power_below : (j i : ℕ) → j < groups s → i < size s → j + i * ((q s.field - 1) / size s) < q s.field - 1
  point_power_below j i g h =
      rw (group_slot_at s P j i g h, member_slot_at s P j i g h) at (exponent_below s P (slot_at s j i) (slot_below s P j i g h))

  -- the exponent of a group's constant
  pub group_exponent : (j : ℕ) → j < groups s → j * size s < q s.field - 1
  unfolding room
  group_exponent j h = omega (arith, mul-le-mul_right (size s) h, P.room_most, size_least s P)

  -- the same by a width that was worked out, and the point
  pub worked_below : (j i w : ℕ) → j < groups s → i < size s → w ≡ (q s.field - 1) / size s → j + i * w < q s.field - 1
  worked_below j i w g h e = rw e (point_power_below j i g h)

  module _ (p : ℕ) (h : p < s.n) (i : ℕ) (l : i < length (mates s p)) where
    members_more : suc i < members s (group s p)
    members_more = omega (arith, length_mates s P p h)

    pub mate_size : mate_member (member s p) i < size s
    unfolding mate_member
    mate_size = go (dec_lt i (member s p))
      where
        go : Dec (i < member s p) → mate_member (member s p) i < size s
        go (yes a) = rw (lt-ltb i (member s p) a) (omega (arith, members_more, members_most s P (group s p)))
        go (no a) = rw (le-ltb i (member s p) (omega arith)) (omega (arith, members_more, members_most s P (group s p)))

    pub mate_is : at (mates s p) i ≡ slot_at s (group s p) (mate_member (member s p) i)
    unfolding mate_member
    mate_is = go (dec_lt i (member s p))
      where
        go : Dec (i < member s p) → at (mates s p) i ≡ slot_at s (group s p) (mate_member (member s p) i)
        go (yes a) = rw (lt-ltb i (member s p) a) (mates_before s P p h i a)
        go (no a) = rw (le-ltb i (member s p) (omega arith)) (mates_after s P p h i (omega arith) members_more)

    pub mate_slot : at (mates s p) i < s.n
    mate_slot = each_index (λ m. m < s.n) (mates s p) (mates_below s P p h) i l

-- the members of a group under wiring 0, by a size that was worked out
module _ (s : Shape) (P : Placed s) (w : wired s ≡ false) (j : ℕ) (h : j < groups s) (t : ℕ) (e : t ≡ size s) where
  place : (i : ℕ) → slot_at s j i ≡ j * t + i
  place i = slot_at_is s j i ∙ ap (λ b. cond b (i * groups s + j) (j * size s + i)) w ∙ ap (λ n. j * n + i) (sym e)

  pub group_starts : j * t < s.n
  group_starts = omega (arith, first_inside s P j h, place 0)

  pub members_left : s.n - j * t < t → members s j ≡ s.n - j * t
  members_left l =
      members_are s P j (s.n - j * t) (omega arith) (λ i b. omega (arith, place i)) (λ i b d. omega (arith, place i, group_starts))

  pub members_full : t ≤ s.n - j * t → members s j ≡ size s
  members_full l = members_are s P j (size s) (omega arith) (λ i b. omega (arith, place i, e)) (λ i b d. absurd (omega arith))
