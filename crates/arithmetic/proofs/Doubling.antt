-- A byte doubled without a branch. Assumes nothing.
--   double_is    (x % 128) * 2 and (x / 128) * 29, exclusive or, is the double
use mathlib.Core.Path.{◌≡◌, ◌∙◌}
use Prim.Native.Nat.{ℕ, ◌*◌, ◌/◌, ◌%◌, ◌<◌}
use native.Mathlib.Omega.{arith}
use lib.Dec.{T, eqb, eqb→eq}
use lib.Bits.{bit_xor}
use Rattle.algebra.specs.Sequence.{every}
use Rattle.algebra.proofs.Every.{every_at}
use Rattle.field.specs.Field.{xor_from, doubled}
use Rattle.field.proofs.Xor.{xor_is}

test : T (every (λ x. eqb (xor_from 8 (x % 128 * 2) (x / 128 * 29)) (doubled x)) 256)
unfolding every xor_from doubled
test = tt

pub double_is : (x : ℕ) → x < 256 → bit_xor (x % 128 * 2) (x / 128 * 29) ≡ doubled x
double_is x h =
    let low : x % 128 * 2 < 256 = omega arith in
    let high : x / 128 * 29 < 256 = omega arith in
    xor_is 8 (x % 128 * 2) (x / 128 * 29) low high
    ∙ eqb→eq (xor_from 8 (x % 128 * 2) (x / 128 * 29)) (doubled x)
    (every_at (λ x. eqb (xor_from 8 (x % 128 * 2) (x / 128 * 29)) (doubled x)) 256 test x h)
