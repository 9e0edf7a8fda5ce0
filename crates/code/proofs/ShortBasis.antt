-- The basis polynomials of a code with a short last group, over the field. Assumes nothing.
--   last_constant, goods, behind    the power size of the last group's points; X to that power less it; the points behind the slots
--   constant_is, good_is, vanish_is      they are those of numbers
--   part s b m x                    == the value at x of polynomial m: with goods where b, else with the product of X - β over behind
--   part_is                         it is the short basis
--   part_degree s b m               == its degree; monic_part
--   goods_on_group                  on group j goods is a constant, 0 on the last one
--   vanish_behind                   the product is 0 behind the slots
use mathlib.Core.Path.{◌≡◌, refl, sym, ap, ap₂, ◌∙◌}
use mathlib.Core.Bool.{Bool, true, false, cond}
use mathlib.Core.List.{List}
use Prim.Native.Nat.{ℕ, zero, suc, ◌+◌, ◌*◌, ◌-◌, ◌/◌, ◌%◌, ◌≤◌, ◌<◌}
use native.Mathlib.Decide.{ℕ_discrete}
use native.Mathlib.Omega.{arith}
use lib.Dec.{ltb}
use Rattle.algebra.specs.Ring.{Ring, pow}
use Rattle.algebra.specs.Sequence.{tabulate_from}
use Rattle.algebra.proofs.Ring.{sub_self, mul_nil, nil_mul}
use Rattle.algebra.proofs.Tabulate.{length_from}
use Rattle.algebra.proofs.Monic.{Monic}
use Rattle.algebra.proofs.Blocks.{monic_block, vanish, monic_vanish}
use Rattle.field.specs.Field.{minus, times, power}
use Rattle.field.proofs.Elem.{Elem, ring_of, pow_is, gen}
use Rattle.code.specs.declared.Shape.{Shape}
use Rattle.code.specs.Shape.{size, groups, room, missing, group, point}
use Rattle.code.specs.Basis.{constant, good, vanish_from, vanishing, lead, short_basis}
use Rattle.code.specs.Laws.{Placed}
use Rattle.code.proofs.Places.{size_least, n_room}
use Rattle.code.proofs.Points.{locator, group_constant, locator_power}

module _ (s : Shape) where
  abbrev f : ℕ
  f = s.field

  abbrev R : Ring
  R = ring_of s.field

  abbrev pub last_constant : Elem s.field
  last_constant = group_constant s (groups s - 1)

  abbrev pub goods : Elem s.field → Elem s.field
  goods x = (ring_of s.field).sub (pow (ring_of s.field) x (size s)) last_constant

  -- the points behind the slots
  abbrev pub behind : List (Elem s.field)
  behind = tabulate_from (locator s) (missing s) s.n

  pub constant_is : last_constant.0 ≡ constant s
  unfolding group_constant constant gen
  constant_is = pow_is f (gen f) ((groups s - 1) * size s)

  pub good_is : (x : Elem s.field) → (goods x).0 ≡ good s x.0
  unfolding good
  good_is x = ap₂ (minus f) (pow_is f x (size s)) constant_is

  pub vanish_is : (x : Elem s.field) (l p : ℕ) → (vanish (ring_of s.field) (tabulate_from (locator s) l p) x).0 ≡ vanish_from s l p x.0
  unfolding vanish vanish_from tabulate_from locator
  vanish_is x zero p = refl
  vanish_is x (suc l) p = ap (times f (minus f x.0 (point s p))) (vanish_is x l (suc p))

  unfoldable pub part : Bool → ℕ → Elem s.field → Elem s.field
  part true m x = R.mul (pow R (goods x) (1 + m / s.r)) (pow R x (m % s.r))
  part false m x = R.mul (vanish R behind x) (pow R x (m - lead s))

  unfoldable pub part_degree : Bool → ℕ → ℕ
  part_degree true m = (1 + m / s.r) * size s + m % s.r
  part_degree false m = missing s + (m - lead s)

  pub part_is : (m : ℕ) (x : Elem s.field) → short_basis s m x.0 ≡ (part (ltb m (lead s)) m x).0
  unfolding short_basis part vanishing
  part_is m x = sym (go (ltb m (lead s)))
    where
      go : (b : Bool) → (part b m x).0
          ≡ cond b (times f (power f (good s x.0) (1 + m / s.r)) (power f x.0 (m % s.r)))
          (times f (vanish_from s (missing s) s.n x.0) (power f x.0 (m - lead s)))
      go true =
          ap₂ (times f) (pow_is f (goods x) (1 + m / s.r) ∙ ap (λ y. power f y (1 + m / s.r)) (good_is x)) (pow_is f x (m % s.r))
      go false = ap₂ (times f) (vanish_is x (missing s) s.n) (pow_is f x (m - lead s))

  pub monic_part : Placed s → (b : Bool) (m : ℕ) → Monic (ring_of s.field) (part_degree b m) (part b m)
  unfolding part part_degree
  monic_part P true m = monic_block R (size s) last_constant (size_least s P) (1 + m / s.r) (m % s.r)
  monic_part P false m = rw (length_from (locator s) (missing s) s.n) at (monic_vanish R behind (m - lead s))

  -- on a group
  pub goods_on_group : Placed s → (j p : ℕ) → group s p ≡ j → goods (locator s p) ≡ R.sub (group_constant s j) last_constant
  goods_on_group P j p g = ap (λ y. R.sub y last_constant) (locator_power s P p ∙ ap (group_constant s) g)

  vanish_among : (l o p : ℕ) → o ≤ p → p < o + l → vanish R (tabulate_from (locator s) l o) (locator s p) ≡ R.nil
  unfolding vanish tabulate_from
  vanish_among zero o p h b = absurd (omega arith)
  vanish_among (suc l) o p h b = go (ℕ_discrete p o) (λ h. vanish_among l (suc o) p h (omega arith))
    where
      go : {y : Elem f} → Dec (p ≡ o) → (suc o ≤ p → y ≡ R.nil) → R.mul (R.sub (locator s p) (locator s o)) y ≡ R.nil
      go {y} (yes e) rest =
          ap (λ n. R.mul (R.sub (locator s n) (locator s o)) y) e ∙ ap (λ x. R.mul x y) (sub_self R (locator s o)) ∙ nil_mul R y
      go (no e) rest =
          let x = R.sub (locator s p) (locator s o) in
          ap (R.mul x) (rest (omega arith)) ∙ mul_nil R x

  pub vanish_behind : Placed s → (p : ℕ) → s.n ≤ p → p < room s → vanish (ring_of s.field) behind (locator s p) ≡ (ring_of s.field).nil
  unfolding missing
  vanish_behind P p h l = vanish_among (missing s) s.n p h (omega (arith, n_room s P))
