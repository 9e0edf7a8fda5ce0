-- How large the numbers of a placed shape, and of a plain one, get. Assumes nothing.
--   room_byte, n_most      the places and n are at most 255
--   groups_most            so are the groups
--   size_is, r_most        r is at most 16
--   k_most                 k is at most 240
--   row_byte               k + missing is at most 255
--   work_most              n × (k + 1) is at most 61,455
--   lead_parts, lead_is, lead_most    a short last group: lead symbols go with g, and with r they are k + missing
use mathlib.Core.Path.{◌≡◌}
use mathlib.Core.Bool.{false}
use Prim.Native.Nat.{◌+◌, ◌*◌, ◌≤◌}
use native.Mathlib.Nat.{mul-le-mul, mul-le-mul_left, mul-le-mul_right}
use native.Mathlib.Omega.{arith}
use Rattle.field.proofs.Laws.{q_most}
use Rattle.code.specs.declared.Shape.{Shape}
use Rattle.code.specs.Shape.{size, groups, room, missing, whole}
use Rattle.code.specs.Basis.{lead}
use Rattle.code.specs.Laws.{Placed, Plain}
use Rattle.code.proofs.Places.{n_room, size_least, missing_less}

pub size_is : (s : Shape) → size s ≡ s.r + s.tolerance
unfolding size
size_is s = omega arith

pub lead_parts : (s : Shape) → s.r ≤ s.k + missing s → lead s + s.r ≡ s.k + missing s
unfolding lead
lead_parts s h = omega arith

module _ (s : Shape) (P : Placed s) where
  pub room_byte : room s ≤ 255
  room_byte = omega (arith, P.room_most, q_most s.field)

  pub n_most : s.n ≤ 255
  n_most = omega (arith, n_room s P, room_byte)

  pub r_most : s.r ≤ 16
  r_most = omega (arith, P.size_most, P.tolerance_least, size_is s)

  pub groups_most : groups s ≤ 255
  unfolding room
  groups_most =
      let m : groups s * 1 ≤ groups s * size s = mul-le-mul_left (groups s) (size_least s P) in
      omega (arith, room_byte)

module _ (s : Shape) (L : Plain s) where
  abbrev P : Placed s
  P = L.family.placed

  -- one place of each group goes
  k_groups : s.k + groups s ≤ s.n
  k_groups = let m : 1 * groups s ≤ s.tolerance * groups s = mul-le-mul_right (groups s) P.tolerance_least in omega (arith, L.k_most)

  pub k_most : s.k ≤ 240
  unfolding room
  k_most =
      let m : groups s * size s ≤ groups s * 17 = mul-le-mul_left (groups s) P.size_most in
      let l : s.n ≤ groups s * size s = n_room s P in
      omega (arith, k_groups, n_most s P)

  pub row_byte : s.k + missing s ≤ 255
  unfolding missing
  row_byte = omega (arith, k_groups, n_room s P, room_byte s P)

  pub work_most : s.n * (s.k + 1) ≤ 61455
  work_most = let h : s.k + 1 ≤ 241 = omega (arith, k_most) in mul-le-mul (n_most s P) h

  -- a short last group
  module _ (short : whole s ≡ false) where
    pub lead_is : lead s + s.r ≡ s.k + missing s
    lead_is = lead_parts s (L.k_last short)

    pub lead_most : lead s ≤ s.k
    lead_most = omega (arith, lead_is, missing_less s P, size_is s, L.short_one short)
