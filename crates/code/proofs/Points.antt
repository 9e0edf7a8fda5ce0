-- Evaluation points: all differ, and the power size of a point is its group's. Assumes nothing.
--   points_differ, group_power    PointsDiffer and GroupPower of specs/Promise.antt
--   locator s p                   == the point of place p as an element of the field
--   group_constant s j            == the power size of the points of group j
--   locators_differ, locator_power, locator_nonzero
--   width s                       == how many powers of γ members of a group are apart
--   locator_at                    the point of a member of a group
use mathlib.Core.Path.{◌≡◌, refl, sym, ap, ap₂, ◌∙◌}
use mathlib.Core.Logic.{◌≢◌}
use Prim.Native.Nat.{ℕ, ◌+◌, ◌*◌, ◌-◌, ◌/◌, ◌%◌, ◌≤◌, ◌<◌}
use native.Mathlib.Nat.{suc-ne-zero, add_comm, div-add-mod', le-div_iff_mul-le}
use native.Mathlib.Omega.{arith}
use lib.Arith.{digits_lt, digits_div, digits_mod}
use Rattle.algebra.specs.Ring.{pow}
use Rattle.algebra.proofs.Ring.{pow_add, pow_mul, pow_unit, unit_mul, pow_nonzero}
use Rattle.field.specs.Field.{q, γ, power}
use Rattle.field.proofs.Generator.{powers_differ}
use Rattle.field.proofs.Elem.{Elem, same, ring_of, pow_is, power_below, gamma_below, gen, gen_whole, field_of}
use Rattle.code.specs.declared.Shape.{Shape}
use Rattle.code.specs.Shape.{size, groups, room, group, member, slot_at, point_at, point}
use Rattle.code.specs.Laws.{Placed}
use Rattle.code.specs.Promise.{PointsDiffer, GroupPower}
use Rattle.code.proofs.Places.{size_least, group_below, member_below, same_place, group_slot_at, member_slot_at}

-- members of a group are width powers of γ apart
unfoldable pub width : Shape → ℕ
width s = (q s.field - 1) / size s

-- the power of γ that is the point of place p
place : Shape → ℕ → ℕ
place s p = member s p * width s + group s p

point_is : (s : Shape) (p : ℕ) → point s p ≡ power s.field γ (place s p)
unfolding point point_at place width
point_is s p = ap (λ n. power s.field γ n) (add_comm (group s p) (member s p * width s))

module _ (s : Shape) (P : Placed s) where
  pub width_size : width s * size s ≡ q s.field - 1
  unfolding width
  width_size = omega (arith, div-add-mod' (q s.field - 1) (size s), P.size_divides)

  pub groups_narrow : groups s ≤ width s
  unfolding width room
  groups_narrow = (le-div_iff_mul-le {k = size s} {x = groups s} {y = q s.field - 1} (size_least s P)).1 P.room_most

  module _ (p : ℕ) (h : p < room s) where
    group_narrow : group s p < width s
    group_narrow = omega (arith, group_below s P p h, groups_narrow)

    place_below : place s p < q s.field - 1
    unfolding place
    place_below = omega (arith, digits_lt (member_below s P p h) group_narrow, width_size)

    -- the same, as a place's group and member give it
    pub exponent_below : group s p + member s p * ((q s.field - 1) / size s) < q s.field - 1
    unfolding place width
    exponent_below = omega (arith, place_below)

  differ : (p o : ℕ) → p < room s → o < room s → point s p ≡ point s o → p ≡ o
  unfolding place
  differ p o h l e =
      let x = powers_differ s.field (place s p) (place s o) (place_below p h) (place_below o l) (sym (point_is s p) ∙ e ∙ point_is s o) in
      let a = group_narrow p h in
      let b = group_narrow o l in
      same_place s P p o (sym (digits_mod (member s p) a) ∙ ap (λ n. n % width s) x ∙ digits_mod (member s o) b)
      (sym (digits_div (member s p) a) ∙ ap (λ n. n / width s) x ∙ digits_div (member s o) b)

pub points_differ : PointsDiffer
unfolding PointsDiffer
points_differ s p o P h l e = differ s P p o h l e

-- points as elements
pub point_at_below : (s : Shape) (j i : ℕ) → point_at s j i < q s.field
unfolding point_at
point_at_below s j i = power_below s.field γ (j + i * ((q s.field - 1) / size s)) (gamma_below s.field)

pub point_below : (s : Shape) (p : ℕ) → point s p < q s.field
unfolding point
point_below s p = point_at_below s (group s p) (member s p)

unfoldable pub locator : (s : Shape) → ℕ → Elem s.field
locator s p = (point s p, point_below s p)

pub locator_is : (s : Shape) (p : ℕ) → (locator s p).0 ≡ point s p
unfolding locator
locator_is s p = refl

unfoldable pub group_constant : (s : Shape) → ℕ → Elem s.field
group_constant s j = pow (ring_of s.field) (gen s.field) (j * size s)

locator_gen : (s : Shape) (p : ℕ) → locator s p ≡ pow (ring_of s.field) (gen s.field) (place s p)
unfolding locator gen
locator_gen s p = same s.field _ _ (point_is s p ∙ sym (pow_is s.field (gen s.field) (place s p)))

pub locator_nonzero : (s : Shape) (p : ℕ) → locator s p ≢ (ring_of s.field).nil
unfolding gen γ
locator_nonzero s p z =
    pow_nonzero (field_of s.field) (gen s.field) (λ e. suc-ne-zero _ (ap (λ x. x.0) e)) (λ e. suc-ne-zero _ (ap (λ x. x.0) e)) (place s p)
    (sym (locator_gen s p) ∙ z)

module _ (s : Shape) (P : Placed s) where
  pub locators_differ : (p o : ℕ) → p < room s → o < room s → locator s p ≡ locator s o → p ≡ o
  unfolding locator
  locators_differ p o h l e = differ s P p o h l (ap (λ x. x.0) e)

  pub locator_at : (j i : ℕ) → j < groups s → i < size s
      → locator s (slot_at s j i) ≡ pow (ring_of s.field) (gen s.field) (i * width s + j)
  unfolding place
  locator_at j i g h =
      locator_gen s (slot_at s j i)
      ∙ ap₂ (λ m n. pow (ring_of s.field) (gen s.field) (m * width s + n)) (member_slot_at s P j i g h) (group_slot_at s P j i g h)

  pub locator_power : (p : ℕ) → pow (ring_of s.field) (locator s p) (size s) ≡ group_constant s (group s p)
  unfolding group_constant place
  locator_power p =
      let R = ring_of s.field in
      let t = gen s.field in
      let g = size s in
      let w = width s in
      let i = member s p in
      let j = group s p in
      ap (λ x. pow R x g) (locator_gen s p) ∙ pow_mul R t (place s p) g
      ∙ ap (λ n. pow R t n) (split g w i j ∙ ap (λ n. n * i + j * g) (width_size s P))
      ∙ pow_add R t ((q s.field - 1) * i) (j * g)
      ∙ ap (λ x. R.mul x (pow R t (j * g))) (sym (pow_mul R t (q s.field - 1) i) ∙ ap (λ x. pow R x i) (gen_whole s.field) ∙ pow_unit R i)
      ∙ unit_mul R (pow R t (j * g))
    where
      split : (g w i j : ℕ) → (i * w + j) * g ≡ w * g * i + j * g
      split g w i j = omega arith

pub group_power : GroupPower
unfolding GroupPower locator group_constant gen
group_power s p P h =
    sym (pow_is s.field (locator s p) (size s)) ∙ ap (λ x. x.0) (locator_power s P p)
    ∙ pow_is s.field (gen s.field) (group s p * size s)
