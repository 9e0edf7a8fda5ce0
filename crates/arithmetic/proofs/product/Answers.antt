use mathlib.Core.Path.{sym, ◌∙◌}
use native.Mathlib.Omega.{arith}
use Rattle.field.proofs.Operations.{times_13, times_256, product_below}
use Rattle.arithmetic.proofs.product.Goals as goal

pub overflow_mul-result : goal.overflow_mul-result
overflow_mul-result c = let a = c.args in omega (arith, product_below a.a a.b (omega arith) (omega arith))

pub returns-then-field-eq0 : goal.returns-then-field-eq0
returns-then-field-eq0 c = let a = c.args in times_13 a.field a.a a.b c.if-field-eq0.true

pub returns : goal.returns
returns c =
    let a = c.args in
    c.byte_product.ensures ∙ sym (times_256 a.field a.a a.b c.if-field-eq0.false)
