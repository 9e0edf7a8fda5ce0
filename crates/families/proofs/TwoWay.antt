-- Two group sizes: every place is a slot, its point the power of γ, and the exponents that both sizes allow differ and fit. Assumes nothing.
--   size_two, groups_two, room_two, whole_two    the numbers
--   exponent_two    the exponents are the numbers that both sizes allow, in order
--   two_way_are     TwoWayAre of specs/Promise.antt
use mathlib.Core.Path.{◌≡◌, sym, ap, ◌∙◌}
use mathlib.Core.Bool.{true, cond}
use Prim.Native.Nat.{ℕ, ◌+◌, ◌*◌, ◌-◌, ◌/◌, ◌%◌, ◌<◌}
use native.Mathlib.Nat.{div-add-mod', div-lt_iff_lt-mul, mul-le-mul_right}
use native.Mathlib.Omega.{arith}
use borrow.Author.Tests.{ne_eqb, eq-eqb}
use lib.Arith.{digits_div}
use lib.Dec.{ltb, ltb→lt}
use Rattle.algebra.specs.Sequence.{count}
use Rattle.algebra.proofs.Booleans.{so, and_left}
use Rattle.algebra.proofs.Counting.{count_most}
use Rattle.field.specs.Field.{q}
use Rattle.field.proofs.Laws.{laws}
use Rattle.code.specs.declared.Shape.{Shape}
use Rattle.code.specs.Search.{nth}
use Rattle.code.specs.Shape.{ceiling, size, groups, room, missing, whole}
use Rattle.code.specs.Basis.{free, exponent, degree}
use Rattle.families.specs.Family.{two_way}
use Rattle.families.specs.Promise.{TwoWayAre}
use Rattle.code.specs.Laws.{Placed, Family}
use Rattle.families.proofs.Search.{Nth, nth_is, nth_most}
use Rattle.code.proofs.Monomial.{monomial}
use Rattle.families.proofs.Sizes.{Sizes, sizes}

module _ (f u v k : ℕ) (Z : Sizes f u v k) where
  abbrev s : Shape
  s = two_way f u v k

  abbrev l : ℕ
  l = q f - 1

  pub size_two : size (two_way f u v k) ≡ u
  unfolding size
  size_two = omega (arith, Z.u_least)

  u_times : l / u * u ≡ l
  u_times = omega (arith, div-add-mod' l u, Z.u_divides)

  pub groups_two : groups (two_way f u v k) ≡ (q f - 1) / u
  unfolding groups ceiling
  groups_two =
      let e : l + u - 1 ≡ l / u * u + (u - 1) = omega (arith, u_times, Z.u_least) in
      let b : u - 1 < u = omega (arith, Z.u_least) in
      ap (λ g. (l + g - 1) / g) size_two ∙ ap (λ n. n / u) e ∙ digits_div (l / u) b

  pub room_two : room (two_way f u v k) ≡ q f - 1
  unfolding room
  room_two = omega (arith, ap (λ n. groups s * n) size_two, ap (λ n. n * u) groups_two, u_times)

  pub whole_two : whole (two_way f u v k) ≡ true
  unfolding whole missing
  whole_two = eq-eqb (room s - l) 0 (omega (arith, room_two))

  pub placed_two : Placed (two_way f u v k)
  placed_two =
      record {
        field_most = Z.field_most;
        r_least = omega (arith, Z.u_least);
        tolerance_least = omega arith;
        size_most = omega (arith, size_two, Z.u_most);
        size_divides = ap (λ g. l % g) size_two ∙ Z.u_divides;
        n_least = omega (arith, (laws f).two_below);
        room_most = omega (arith, room_two);
        wired_whole = λ e. whole_two;
      }

  pub exponent_two : (m : ℕ) → exponent (two_way f u v k) m ≡ nth (free u v) (q f - 1) m
  unfolding exponent
  exponent_two m =
      ap (λ b. cond b (m / (u - 1) * size s + m % (u - 1)) (nth (free (size s) v) (room s) m)) (ne_eqb v 0 (λ e. omega (arith, Z.v_least)))
      ∙ ap (λ g. nth (free g v) (room s) m) size_two ∙ ap (λ n. nth (free u v) n m) room_two

  is_nth : (m : ℕ) → m < k → Nth (free u v) l m (exponent s m)
  is_nth m h = rw (exponent_two m) (nth_is (free u v) l m (omega (arith, Z.enough)))

  last_is : degree s ≡ exponent s (k - 1)
  unfolding degree missing
  last_is = let e : k + (room s - l) - 1 ≡ k - 1 = omega (arith, room_two) in ap (exponent s) e

  allowed : (m : ℕ) → m < k → exponent s m % u < u - 1
  unfolding free
  allowed m h =
      let e = exponent s m in
      ltb→lt (e % u) (u - 1) (and_left (ltb (e % u) (u - 1)) (ltb (e % v) (v - 1)) (so (is_nth m h).passes))

  -- the last exponent is not the last of its block
  last_inside : degree s + 1 < room s
  last_inside =
      let b : k - 1 < k = omega (arith, Z.k_least) in
      let e = exponent s (k - 1) in
      let h : e < l / u * u = omega (arith, (is_nth (k - 1) b).below, u_times) in
      let u_some : 0 < u = omega (arith, Z.u_least) in
      let d : e / u < l / u = (div-lt_iff_lt-mul {k = u} {x = e} {y = l / u} u_some).1 h in
      omega (arith, last_is, div-add-mod' e u, allowed (k - 1) b, mul-le-mul_right u d, u_times, room_two)

  -- k exponents are below the last one's next
  k_inside : k < l
  k_inside =
      let b : k - 1 < k = omega (arith, Z.k_least) in
      omega (arith, (is_nth (k - 1) b).rank, count_most (free u v) (exponent s (k - 1)), last_is, last_inside, room_two)

  pub two_way_family : Family (two_way f u v k)
  two_way_family =
      monomial s placed_two whole_two
      (record {
        differ = λ i j a b e. sym (is_nth i a).rank ∙ ap (count (free u v)) e ∙ (is_nth j b).rank;
        most = λ m h.
            let b : k - 1 < k = omega arith in
            omega (arith, last_is, nth_most (free u v) l m (k - 1) (exponent s m) (exponent s (k - 1)) (omega arith) (is_nth m h) (is_nth (k - 1) b));
        in_block = λ m h. rw (ap (λ g. exponent s m % g) size_two) (allowed m h);
        inside = last_inside;
      }) Z.k_least k_inside

pub two_way_are : TwoWayAre
unfolding TwoWayAre
two_way_are f u v k e = two_way_family f u v k (sizes f u v k e)
