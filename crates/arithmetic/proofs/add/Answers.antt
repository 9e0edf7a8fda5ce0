use native.Mathlib.Omega.{arith}
use Rattle.field.proofs.Operations.{plus_13, plus_256}
use Rattle.arithmetic.proofs.add.Goals as goal

pub returns-then-field-eq0 : goal.returns-then-field-eq0
returns-then-field-eq0 c = let a = c.args in plus_13 a.field a.a a.b c.if-field-eq0.true

pub returns : goal.returns
returns c = let a = c.args in plus_256 a.field a.a a.b c.if-field-eq0.false (omega arith) (omega arith)
