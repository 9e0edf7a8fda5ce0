use Prim.Native.Nat.{◌*◌, ◌-◌, ◌/◌, ◌%◌, ◌^◌}
use native.Mathlib.Numerals.{add-one}
use native.Mathlib.Omega.{arith}
use Rattle.field.specs.Field.{times}
use Rattle.field.proofs.Xor.{xor_is}
use Rattle.field.proofs.Byte.{◌⊕◌, ⊕_below, double_below}
use Rattle.arithmetic.proofs.Bits.{bit_times_below, bits_none, bits_more, bits_all}
use Rattle.arithmetic.proofs.byte_product.Goals as goal

pub loop-i-init : goal.loop-i-init
loop-i-init c = bits_none c.args.a c.args.b (omega arith)

pub overflow_mul-sum : goal.overflow_mul-sum
overflow_mul-sum c =
    let l = c.loop-i in
    let h = bit_times_below (c.args.b / 2 ^ l.i) l.multiple l.invariant.multiple_below in
    omega (arith, h)

pub loop-i-preserved : goal.loop-i-preserved
loop-i-preserved c =
    let s = c.args in
    let l = c.loop-i in
    let B = l.invariant in
    let v = s.b / 2 ^ l.i % 2 * l.multiple in
    let x = xor_is 8 l.sum v B.sum_below (bit_times_below (s.b / 2 ^ l.i) l.multiple B.multiple_below) in
    rw (c.double-multiple.ensures, x, add-one)
    (bits_more s.a s.b l.sum l.multiple l.i c.loop-i-test.true (double_below l.multiple B.multiple_below) (⊕_below l.sum v) B)

pub returns : goal.returns
unfolding times
returns c =
    let s = c.args in
    let l = c.loop-i in
    bits_all s.a s.b l.sum l.multiple l.i (omega arith) l.invariant
