-- No second group size: the exponents (m div r) × size + (m mod r) differ and fit. Assumes nothing.
--   exponent_raised    they are algebra's
--   exponent_is, exponent_injective, exponent_monotone, exponent_block
--   degree_inside      the largest degree leaves the last group its tolerance, whole or short
--   grouped_whole      with whole groups such a shape is a family
use mathlib.Core.Path.{◌≡◌, sym, ap, ◌∙◌}
use mathlib.Core.Bool.{true, cond}
use Prim.Native.Nat.{ℕ, ◌+◌, ◌*◌, ◌-◌, ◌/◌, ◌%◌, ◌≤◌, ◌<◌}
use native.Mathlib.Nat.{mod-lt, div-lt_iff_lt-mul, mul-le-mul_left, mul-le-mul_right}
use native.Mathlib.Omega.{arith}
use borrow.Author.Tests.{eq-eqb}
use lib.Arith.{digits_mod}
use Rattle.algebra.proofs.Locality.{raised, raised_is, raised_monotone, raised_injective}
use Rattle.code.specs.declared.Shape.{Shape}
use Rattle.code.specs.Search.{nth}
use Rattle.code.specs.Shape.{size, groups, room, missing, whole}
use Rattle.code.specs.Basis.{free, exponent, degree}
use Rattle.code.specs.Laws.{Placed, Family}
use Rattle.code.proofs.Places.{k_room, groups_least}
use Rattle.code.proofs.Monomial.{monomial}

pub exponent_raised : (s : Shape) → s.second ≡ 0 → (m : ℕ) → exponent s m ≡ raised s.r (size s) m
unfolding exponent raised
exponent_raised s e m =
    ap (λ b. cond b (m / s.r * size s + m % s.r) (nth (free (size s) s.second) (room s) m)) (eq-eqb s.second 0 e)

module _ (s : Shape) (P : Placed s) (none : s.second ≡ 0) where
  pub size_sum : size s ≡ s.r + s.tolerance
  unfolding size
  size_sum = omega arith

  low : (m : ℕ) → m % s.r < s.r
  low m = mod-lt m P.r_least

  pub exponent_is : (m : ℕ) → exponent s m ≡ m + s.tolerance * (m / s.r)
  exponent_is m = exponent_raised s none m ∙ ap (λ g. raised s.r g m) size_sum ∙ raised_is s.r s.tolerance m

  pub exponent_injective : (i j : ℕ) → exponent s i ≡ exponent s j → i ≡ j
  exponent_injective i j e =
      raised_injective s.r (size s) P.r_least (omega (arith, size_sum)) i j (sym (exponent_raised s none i) ∙ e ∙ exponent_raised s none j)

  pub exponent_monotone : (i j : ℕ) → i ≤ j → exponent s i ≤ exponent s j
  exponent_monotone i j h =
      omega (
        arith,
        raised_monotone s.r s.tolerance P.r_least i j h,
        exponent_is i,
        exponent_is j,
        raised_is s.r s.tolerance i,
        raised_is s.r s.tolerance j,
      )

  pub exponent_block : (m : ℕ) → exponent s m % size s ≡ m % s.r
  unfolding raised
  exponent_block m =
      let l : m % s.r < size s = omega (arith, low m, size_sum) in
      ap (λ n. n % size s) (exponent_raised s none m) ∙ digits_mod (m / s.r) l

  module _ (k_least : 1 ≤ s.k) (k_most : s.k + s.tolerance * groups s ≤ s.n) where
    abbrev last : ℕ
    last = s.k + missing s - 1

    room_is : room s ≡ groups s * (s.r + s.tolerance)
    unfolding room
    room_is = ap (λ n. groups s * n) size_sum

    last_block : last / s.r < groups s
    last_block = (div-lt_iff_lt-mul {k = s.r} {x = last} {y = groups s} P.r_least).1 (omega (arith, room_is, k_room s P k_most))

    pub degree_inside : degree s + s.tolerance < room s
    unfolding degree
    degree_inside = omega (arith, exponent_is last, mul-le-mul_left s.tolerance last_block, k_room s P k_most)

    pub grouped_whole : whole s ≡ true → Family s
    unfolding degree
    grouped_whole w =
        monomial s P w
        (record {
          differ = λ i j a b e. exponent_injective i j e;
          most = λ m h. exponent_monotone m last (omega arith);
          in_block = λ m h. omega (arith, exponent_block m, low m);
          inside = degree_inside;
        }) k_least (omega (arith, k_most, mul-le-mul_right (groups s) P.tolerance_least, groups_least s P))
