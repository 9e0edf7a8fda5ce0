use mathlib.Core.Path.{◌∙◌}
use Prim.Native.Nat.{◌-◌, ◌%◌}
use native.Mathlib.Omega.{arith}
use Rattle.algebra.specs.Sequence.{at}
use Rattle.field.proofs.Operations.{inverse_13, inverse_nil, inverse_log, reduced_below}
use Rattle.arithmetic.proofs.inverse_of.Goals as goal

pub returns-then-field-eq0 : goal.returns-then-field-eq0
returns-then-field-eq0 c =
    let a = c.args in
    c.power_of.ensures ∙ inverse_13 a.field a.a c.if-field-eq0.true

pub returns-then-a-eq0 : goal.returns-then-a-eq0
returns-then-a-eq0 c = let a = c.args in inverse_nil a.field a.a c.if-field-eq0.false c.if-a-eq0.true

pub returns : goal.returns
returns c =
    let a = c.args in
    let i = c.logarithm-i.result in
    c.byte_power.ensures
    ∙ inverse_log a.field a.a i c.if-field-eq0.false c.logarithm-i.ensures.below (c.logarithm-i.ensures.entry c.if-a-eq0.false)
