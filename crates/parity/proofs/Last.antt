-- The polynomial g of a code with a short last group, by the points of that group. Assumes nothing.
--   kept_points s     the points of the last group's slots; with those behind the slots they are all of the group
--   Factored, factored    g is the product of X - y over them, the product over those behind, and a constant
--   level_not_zero    g is not 0 at a place that is in another group
--   Inverted, inverted    so in another group one by the product over the points behind is the other product, but for a constant
use mathlib.Core.Path.{◌≡◌, refl, sym, ap, ap₂, ◌∙◌}
use mathlib.Core.Logic.{◌≢◌}
use mathlib.Core.Bool.{false, cond}
use mathlib.Core.List.{List, [], ◌∷◌, ◌++◌}
use Prim.Native.Nat.{ℕ, zero, suc, ◌+◌, ◌*◌, ◌-◌, ◌/◌, ◌≤◌, ◌<◌}
use native.Mathlib.Nat.{mul-le-mul_right}
use native.Mathlib.Omega.{arith}
use lib.Arith.{digits_div}
use lib.ListN.{length}
use Rattle.algebra.specs.Ring.{Ring, Field}
use Rattle.algebra.specs.Sequence.{tabulate_from}
use Rattle.algebra.specs.Polynomial.{eval, Poly}
use Rattle.algebra.proofs.Ring.{sub_self, eq_of_sub, mul_nil, nil_mul, unit_mul}
use Rattle.algebra.proofs.Tabulate.{length_from, from_each, from_distinct}
use Rattle.algebra.proofs.Polynomial.{pad, length_pad, eval_pad}
use Rattle.algebra.proofs.Monic.{monic_one, monic_binomial}
use Rattle.algebra.proofs.Blocks.{vanish, monic_poly}
use Rattle.algebra.proofs.Cofactors.{Cofactor, cofactor}
use Rattle.field.specs.Field.{q}
use Rattle.field.proofs.Generator.{powers_differ}
use Rattle.field.proofs.Elem.{Elem, ring_of, field_of, gen, pow_is, one_not_zero, inv, mul_inv}
use Rattle.code.specs.declared.Shape.{Shape}
use Rattle.code.specs.Shape.{size, groups, room, missing, whole, group, slot_at}
use Rattle.code.specs.Laws.{Placed}
use Rattle.code.proofs.Places.{slot_at_is, size_least, n_room, groups_least, missing_less, group_below, group_slot_at, not_wired}
use Rattle.code.proofs.Points.{locator, locators_differ, group_constant}
use Rattle.code.proofs.ShortBasis.{last_constant, goods, behind, goods_on_group}

module _ (R : Ring) where
  open R use {El, mul as ◌⊗◌, mul_comm, mul_assoc}

  infixl 70 ◌⊗◌
  vanish_append : (xs ys : List El) (x : El) → vanish R (xs ++ ys) x ≡ vanish R xs x ⊗ vanish R ys x
  unfolding vanish
  vanish_append [] ys x = sym (unit_mul R (vanish R ys x))
  vanish_append (y ∷ xs) ys x =
      ap (λ v. R.sub x y ⊗ v) (vanish_append xs ys x) ∙ sym (mul_assoc (R.sub x y) (vanish R xs x) (vanish R ys x))

  gathered : (h d b l : El) → h ⊗ (b ⊗ l ⊗ d) ≡ d ⊗ h ⊗ b ⊗ l
  gathered h d b l = mul_comm h (b ⊗ l ⊗ d) ∙ mul_assoc (b ⊗ l) d h ∙ mul_comm (b ⊗ l) (d ⊗ h) ∙ sym (mul_assoc (d ⊗ h) b l)

from_append : {A : Type 0} (f : ℕ → A) (l m i : ℕ) → tabulate_from f (l + m) i ≡ tabulate_from f l i ++ tabulate_from f m (i + l)
unfolding tabulate_from
from_append f zero m i = let a : 0 + m ≡ m = omega arith in let b : i ≡ i + 0 = omega arith in ap₂ (tabulate_from f) a b
from_append f (suc l) m i =
    let a : suc l + m ≡ suc (l + m) = omega arith in
    let b : suc i + l ≡ i + suc l = omega arith in
    ap (λ n. tabulate_from f n i) a
    ∙ ap (λ xs. f i ∷ xs) (from_append f l m (suc i) ∙ ap (λ n. tabulate_from f l (suc i) ++ tabulate_from f m n) b)

module _ (s : Shape) (P : Placed s) (short : whole s ≡ false) where
  abbrev f : ℕ
  f = s.field

  abbrev R : Ring
  R = ring_of s.field

  abbrev F : Field
  F = field_of s.field

  -- where the last group begins
  abbrev start : ℕ
  start = room s - size s

  abbrev pub kept_points : List (Elem s.field)
  kept_points = tabulate_from (locator s) (size s - missing s) (room s - size s)

  pub length_kept_points : length kept_points ≡ size s - missing s
  length_kept_points = length_from (locator s) (size s - missing s) start

  size_room : size s ≤ room s
  unfolding room
  size_room = let e : groups s ≡ suc (groups s - 1) = omega (arith, groups_least s P) in omega (arith, ap (λ n. n * size s) e)

  all_points : tabulate_from (locator s) (size s) start ≡ kept_points ++ behind s
  unfolding missing
  all_points =
      let h = missing_less s P in
      let n = n_room s P in
      let b = size_room in
      ap (λ l. tabulate_from (locator s) l start) (omega arith) ∙ from_append (locator s) (size s - missing s) (missing s) start
      ∙ ap (λ i. kept_points ++ tabulate_from (locator s) (missing s) i) (omega arith)

  last_group : (p : ℕ) → start ≤ p → p < room s → group s p ≡ groups s - 1
  unfolding room
  last_group p h l =
      let j : ℕ = groups s - 1 in
      let e : groups s ≡ suc j = omega (arith, groups_least s P) in
      let d : groups s * size s ≡ j * size s + size s = ap (λ n. n * size s) e ∙ omega arith in
      let i : ℕ = p - start in
      let b : i < size s = omega arith in
      let at : slot_at s j i ≡ p = slot_at_is s j i ∙ ap (λ w. cond w (i * groups s + j) (j * size s + i)) (not_wired s P short) ∙ omega arith in
      ap (group s) (sym at) ∙ group_slot_at s P j i (omega arith) b

  goods_none : (p : ℕ) → start ≤ p → p < room s → goods s (locator s p) ≡ R.nil
  goods_none p h l = goods_on_group s P (groups s - 1) p (last_group p h l) ∙ sub_self R (last_constant s)

  pub record Factored : Type 0 where
    pub b : Elem s.field
    pub is : (x : Elem s.field)
        → goods s x ≡ (ring_of s.field).mul ((ring_of s.field).mul (vanish (ring_of s.field) kept_points x) (vanish (ring_of s.field) (behind s) x)) b

  constant_value : (cs : List (Elem f)) → length cs ≡ 1 → (b : Elem f) × ((x : Elem f) → eval R cs x ≡ b)
  unfolding eval
  constant_value [] h = absurd (omega arith)
  constant_value (c ∷ []) h = (c, λ x. ap (R.add c) (mul_nil R x) ∙ R.add_nil c)
  constant_value (c ∷ d ∷ cs) h = absurd (omega arith)

  -- the coefficients of g
  g_poly : Poly R (suc (0 + size s)) (λ x. R.mul (goods s x) R.unit)
  g_poly =
      monic_poly R (0 + size s) (λ x. R.mul (goods s x) R.unit) (monic_binomial R (size s) 0 (λ x. R.unit) (last_constant s) (size_least s P) (monic_one R))

  coefs : List (Elem f)
  coefs = pad R (suc (size s)) g_poly.coefs

  coefs_number : length coefs ≡ suc (size s)
  unfolding coefs
  coefs_number = length_pad R (suc (size s)) g_poly.coefs (omega (arith, g_poly.few))

  coefs_value : (x : Elem f) → eval R coefs x ≡ goods s x
  unfolding coefs
  coefs_value x = eval_pad R (suc (size s)) g_poly.coefs x ∙ sym (g_poly.is x) ∙ R.mul_unit (goods s x)

  cofactors : Cofactor F (tabulate_from (locator s) (size s) start) coefs
  cofactors =
      cofactor F (tabulate_from (locator s) (size s) start) coefs
      (from_distinct (locator s) (size s) start (λ p o a b c d e. locators_differ s P p o (omega (arith, size_room)) (omega (arith, size_room)) e))
      (from_each (locator s) (λ y. eval R coefs y ≡ R.nil) (size s) start (λ p a b. coefs_value (locator s p) ∙ goods_none p a (omega (arith, size_room))))
      (omega (arith, length_from (locator s) (size s) start, coefs_number))

  constant_left : (b : Elem f) × ((x : Elem f) → eval R cofactors.to x ≡ b)
  constant_left = constant_value cofactors.to (omega (arith, cofactors.fewer, length_from (locator s) (size s) start, coefs_number))

  pub factored : Factored
  factored =
      record {
        b = constant_left.0;
        is = λ x.
            sym (coefs_value x) ∙ cofactors.is x
            ∙ ap₂ R.mul (ap (λ (ys : List (Elem f)). vanish R ys x) all_points ∙ vanish_append R kept_points (behind s) x) (constant_left.1 x);
      }

  module _ (o : ℕ) (inside : o < room s) (other : group s o ≢ groups s - 1) where
    pub level_not_zero : goods s (locator s o) ≢ (ring_of s.field).nil
    unfolding group_constant gen room
    level_not_zero z =
        let j : ℕ = group s o in
        let k : ℕ = groups s - 1 in
        let e : groups s ≡ suc k = omega (arith, groups_least s P) in
        let d : groups s * size s ≡ k * size s + size s = ap (λ n. n * size s) e ∙ omega arith in
        let b : j * size s ≤ k * size s = mul-le-mul_right (size s) (omega (arith, group_below s P o inside)) in
        let m : k * size s < q f - 1 = omega (arith, P.room_most, size_least s P) in
        let same = eq_of_sub R (group_constant s j) (last_constant s) (sym (goods_on_group s P j o refl) ∙ z) in
        let eq : j * size s ≡ k * size s
        = powers_differ f (j * size s) (k * size s) (omega arith) m
        (sym (pow_is f (gen f) (j * size s)) ∙ ap (λ x. x.0) same ∙ pow_is f (gen f) (k * size s)) in
        other (div_same j k (size s) (size_least s P) eq)
      where
        div_same : (a b c : ℕ) → 0 < c → a * c ≡ b * c → a ≡ b
        div_same a b c h e = sym (digits_div a h) ∙ ap (λ n. (n + 0) / c) e ∙ digits_div b h

    pub record Inverted : Type 0 where
      pub κ : Elem s.field
      pub κ_not_zero : κ ≢ (ring_of s.field).nil
      pub is : (i : ℕ) → group s i ≡ group s o
          → inv s.field (vanish (ring_of s.field) (behind s) (locator s i)) ≡ (ring_of s.field).mul κ (vanish (ring_of s.field) kept_points (locator s i))
      pub whole_again : (i : ℕ) → group s i ≡ group s o
          → (ring_of s.field).mul (inv s.field (vanish (ring_of s.field) (behind s) (locator s i))) (vanish (ring_of s.field) (behind s) (locator s i))
          ≡ (ring_of s.field).unit

    abbrev level : Elem f
    level = goods s (locator s o)

    abbrev constant : Elem f
    constant = R.mul factored.b (inv f level)

    same_level : (i : ℕ) → group s i ≡ group s o → goods s (locator s i) ≡ level
    same_level i g = goods_on_group s P (group s o) i g ∙ sym (goods_on_group s P (group s o) o refl)

    by_one : (i : ℕ) → group s i ≡ group s o
        → R.mul (vanish R (behind s) (locator s i)) (R.mul constant (vanish R kept_points (locator s i))) ≡ R.unit
    by_one i g =
        let h = vanish R (behind s) (locator s i) in
        let d = vanish R kept_points (locator s i) in
        gathered R h d factored.b (inv f level)
        ∙ ap (λ (v : Elem f). R.mul v (inv f level)) (sym (factored.is (locator s i)) ∙ same_level i g) ∙ mul_inv f level level_not_zero

    pub inverted : Inverted
    inverted =
        record {
          κ = constant;
          κ_not_zero = λ z.
              one_not_zero f
              (sym (by_one o refl)
              ∙ ap (λ (v : Elem f). R.mul (vanish R (behind s) (locator s o)) (R.mul v (vanish R kept_points (locator s o)))) z
              ∙ ap (R.mul (vanish R (behind s) (locator s o))) (nil_mul R (vanish R kept_points (locator s o))) ∙ mul_nil R (vanish R (behind s) (locator s o)));
          is = λ i g. inverse_is (vanish R (behind s) (locator s i)) (R.mul constant (vanish R kept_points (locator s i))) (by_one i g);
          whole_again = λ i g.
              R.mul_comm (inv f (vanish R (behind s) (locator s i))) (vanish R (behind s) (locator s i))
              ∙ mul_inv f (vanish R (behind s) (locator s i)) (divides_one (vanish R (behind s) (locator s i)) (R.mul constant (vanish R kept_points (locator s i))) (by_one i g));
        }
      where
        divides_one : (a c : Elem f) → R.mul a c ≡ R.unit → a ≢ R.nil
        divides_one a c e z = one_not_zero f (sym e ∙ ap (λ (v : Elem f). R.mul v c) z ∙ nil_mul R c)

        inverse_is : (a c : Elem f) → R.mul a c ≡ R.unit → inv f a ≡ c
        inverse_is a c e =
            sym (R.mul_unit (inv f a)) ∙ ap (R.mul (inv f a)) (sym e) ∙ sym (R.mul_assoc (inv f a) a c)
            ∙ ap (λ (v : Elem f). R.mul v c) (R.mul_comm (inv f a) a ∙ mul_inv f a (divides_one a c e)) ∙ unit_mul R c
