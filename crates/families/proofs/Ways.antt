-- Two ways home: the two groupings of a code with two group sizes have the same codewords. Assumes nothing.
--   swapped       the facts of the sizes, exchanged
--   point_two     the point of place p is γ to the power p, whatever the sizes
--   ways_same     WaysSame of specs/Promise.antt
--   ways_apart    WaysApart
--   way_back      the exchanged sizes are a family too
use mathlib.Core.Path.{◌≡◌, refl, sym, ap, ap₂, ◌∙◌}
use mathlib.Core.Bool.{Bool, true, false, ◌&&◌}
use mathlib.Core.List.{List, [], ◌∷◌}
use Prim.Native.Nat.{ℕ, suc, ◌+◌, ◌*◌, ◌-◌, ◌/◌, ◌%◌, ◌≤◌, ◌<◌}
use native.Mathlib.Nat.{div-add-mod', mul-le-mul_right}
use native.Mathlib.Decide.{dec_lt}
use native.Mathlib.Omega.{arith}
use lib.Arith.{digits_mod}
use lib.Dec.{ltb}
use Rattle.algebra.specs.Sequence.{In}
use Rattle.algebra.proofs.Tabulate.{tabulate_same}
use Rattle.algebra.proofs.Counting.{count_same}
use Rattle.field.specs.Field.{q, γ, plus, times, power}
use Rattle.code.specs.Shape.{groups, wired, group, member, point_at, point, mates}
use Rattle.code.specs.Basis.{free, basis}
use Rattle.families.specs.Family.{two_way}
use Rattle.code.specs.Codeword.{value_from, value, symbol, encoded}
use Rattle.families.specs.Promise.{WaysSame, WaysApart, WayBack}
use Rattle.families.proofs.Search.{nth_same}
use Rattle.code.proofs.Monomial.{basis_power}
use Rattle.families.proofs.Sizes.{Sizes, sizes, sizes_apart}
use Rattle.families.proofs.TwoWay.{size_two, groups_two, room_two, whole_two, placed_two, exponent_two, two_way_family}
use Rattle.code.proofs.Places.{groups_least, n_room}
use Rattle.code.proofs.Others.{Other, other_is}
use Rattle.code.proofs.Mates.{mate_other}

free_swap : (u v e : ℕ) → free u v e ≡ free v u e
unfolding free
free_swap u v e = go (ltb (e % u) (u - 1)) (ltb (e % v) (v - 1))
  where
    go : (a b : Bool) → a && b ≡ b && a
    go true true = refl
    go true false = refl
    go false true = refl
    go false false = refl

pub swapped : (f u v k : ℕ) → Sizes f u v k → Sizes f v u k
swapped f u v k Z =
    record {
      field_most = Z.field_most;
      u_least = Z.v_least;
      u_most = Z.v_most;
      u_divides = Z.v_divides;
      v_least = Z.u_least;
      v_most = Z.u_most;
      v_divides = Z.u_divides;
      k_least = Z.k_least;
      enough = omega (arith, Z.enough, count_same (free u v) (free v u) (q f - 1) (λ i h. free_swap u v i));
    }

pub way_back : WayBack
unfolding WayBack
way_back f u v k e = two_way_family f v u k (swapped f u v k (sizes f u v k e))

module _ (f u v k : ℕ) (Z : Sizes f u v k) where
  pub point_two : (p : ℕ) → point (two_way f u v k) p ≡ power f γ p
  unfolding point point_at group member wired
  point_two p =
      let s = two_way f u v k in
      ap (λ w. power f γ (p % groups s + p / groups s * w)) (ap (λ g. (q f - 1) / g) (size_two f u v k Z) ∙ sym (groups_two f u v k Z))
      ∙ ap (power f γ) (omega (arith, div-add-mod' p (groups s)))

  basis_swap : (m x : ℕ) → basis (two_way f u v k) m x ≡ basis (two_way f v u k) m x
  basis_swap m x =
      let Y = swapped f u v k Z in
      basis_power (two_way f u v k) m x (whole_two f u v k Z)
      ∙ ap (power f x) (exponent_two f u v k Z m ∙ nth_same (free u v) (free v u) (free_swap u v) m (q f - 1) ∙ sym (exponent_two f v u k Y m))
      ∙ sym (basis_power (two_way f v u k) m x (whole_two f v u k Y))

  value_swap : (x m : ℕ) (ys : List ℕ) → value_from (two_way f u v k) x m ys ≡ value_from (two_way f v u k) x m ys
  unfolding value_from
  value_swap x m [] = refl
  value_swap x m (y ∷ ys) = ap₂ (plus f) (ap (times f y) (basis_swap m x)) (value_swap x (suc m) ys)

pub ways_same : WaysSame
unfolding WaysSame encoded symbol value
ways_same f u v k xs e =
    let Z = sizes f u v k e in
    tabulate_same 0 (λ p. value_from (two_way f u v k) (point (two_way f u v k) p) 0 xs) (λ p. value_from (two_way f v u k) (point (two_way f v u k) p) 0 xs) (q f - 1)
    (λ p h. ap (λ x. value_from (two_way f u v k) x 0 xs) (point_two f u v k Z p ∙ sym (point_two f v u k (swapped f u v k Z) p))
    ∙ value_swap f u v k Z (point (two_way f v u k) p) 0 xs)

-- two numbers with the same remainder
multiple : (g m p a b r : ℕ) → m ≡ a * g + r → p ≡ b * g + r → p < m → 0 < g → (m - p) % g ≡ 0
multiple g m p a b r e d h z =
    let l : b ≤ a = go (dec_lt a b) in
    let c : a ≡ (a - b) + b = omega arith in
    ap (λ n. n % g) (parts (a - b) (e ∙ ap (λ n. n * g + r) c)) ∙ digits_mod (a - b) z
  where
    go : Dec (a < b) → b ≤ a
    go (yes l) = absurd (omega (arith, mul-le-mul_right g l))
    go (no l) = omega arith

    parts : (c : ℕ) → m ≡ (c + b) * g + r → m - p ≡ c * g + 0
    parts c q = omega arith

-- the remainder of a place by the number of groups is its group
module _ (f u v k : ℕ) (Z : Sizes f u v k) where
  group_two : (p : ℕ) → group (two_way f u v k) p ≡ p % ((q f - 1) / u)
  unfolding group wired
  group_two p = ap (λ g. p % g) (groups_two f u v k Z)

  apart_by : (m p : ℕ) → p < m → group (two_way f u v k) m ≡ group (two_way f u v k) p → (m - p) % ((q f - 1) / u) ≡ 0
  apart_by m p h e =
      let g = (q f - 1) / u in
      multiple g m p (m / g) (p / g) (m % g) (sym (div-add-mod' m g)) (sym (div-add-mod' p g) ∙ ap (λ r. p / g * g + r) (sym (group_two p) ∙ sym e ∙ group_two m)) h
      (omega (arith, groups_two f u v k Z, groups_least (two_way f u v k) (placed_two f u v k Z)))

mate_of : (f u v k : ℕ) → Sizes f u v k → (p m : ℕ) → p < q f - 1 → In m (mates (two_way f u v k) p) → Other (two_way f u v k) p m
mate_of f u v k Z p m h i =
    let s = two_way f u v k in
    let P = placed_two f u v k Z in
    other_is s P p (omega (arith, n_room s P)) (mate_other s P p h i)

pub ways_apart : WaysApart
unfolding WaysApart
ways_apart f u v k p m e h i j = go (dec_lt p m) (dec_lt m p)
  where
    Z : Sizes f u v k
    Z = sizes f u v k e

    Y : Sizes f v u k
    Y = swapped f u v k Z

    A : Other (two_way f u v k) p m
    A = mate_of f u v k Z p m h i

    B : Other (two_way f v u k) p m
    B = mate_of f v u k Y p m h j

    far : (d : ℕ) → 1 ≤ d → d < q f - 1 → d % ((q f - 1) / u) ≡ 0 → d % ((q f - 1) / v) ≡ 0 → ⊥
    far d a b x y =
        let c : d - 1 + 1 ≡ d = omega arith in
        sizes_apart f u v k (d - 1) e (omega arith) (ap (λ n. n % ((q f - 1) / u)) c ∙ x) (ap (λ n. n % ((q f - 1) / v)) c ∙ y)

    low : m < q f - 1
    low = omega (arith, A.below, room_two f u v k Z)

    go : Dec (p < m) → Dec (m < p) → ⊥
    go (yes l) d = far (m - p) (omega arith) (omega (arith, low)) (apart_by f u v k Z m p l A.group_same) (apart_by f v u k Y m p l B.group_same)
    go (no l) (yes d) = far (p - m) (omega arith) (omega arith) (apart_by f u v k Z p m d (sym A.group_same)) (apart_by f v u k Y p m d (sym B.group_same))
    go (no l) (no d) = A.other_place (omega arith)
