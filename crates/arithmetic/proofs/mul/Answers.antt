use mathlib.Core.Path.{◌∙◌}
use Prim.Native.Nat.{◌+◌, ◌%◌}
use native.Mathlib.Omega.{arith}
use Rattle.algebra.specs.Sequence.{at}
use Rattle.field.proofs.Operations.{times_13, times_nil_left, times_nil_right, times_logs, product_below, reduced_below}
use Rattle.arithmetic.proofs.mul.Goals as goal

pub overflow_mul-result : goal.overflow_mul-result
overflow_mul-result c = let a = c.args in omega (arith, product_below a.a a.b (omega arith) (omega arith))

pub returns-then-field-eq0 : goal.returns-then-field-eq0
returns-then-field-eq0 c = let a = c.args in times_13 a.field a.a a.b c.if-field-eq0.true

pub returns-then-a-eq0 : goal.returns-then-a-eq0
returns-then-a-eq0 c = let a = c.args in times_nil_left a.field a.a a.b c.if-field-eq0.false (omega arith) c.if-a-eq0.true

pub returns-then-b-eq0 : goal.returns-then-b-eq0
returns-then-b-eq0 c = let a = c.args in times_nil_right a.field a.a a.b c.if-field-eq0.false (omega arith) c.if-b-eq0.true

pub returns : goal.returns
returns c =
    let a = c.args in
    let i = c.logarithm-i.result in
    let j = c.logarithm-j.result in
    c.byte_power.ensures
    ∙ times_logs a.field a.a a.b i j c.if-field-eq0.false
    (c.logarithm-i.ensures.entry c.if-a-eq0.false) (c.logarithm-j.ensures.entry c.if-b-eq0.false)
