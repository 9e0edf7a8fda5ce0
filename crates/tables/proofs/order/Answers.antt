use native.Mathlib.Omega.{arith}
use Rattle.field.proofs.Operations.{q_13, q_256}
use Rattle.tables.proofs.order.Goals as goal

pub returns-then-field-eq0 : goal.returns-then-field-eq0
returns-then-field-eq0 c = (q_13 c.args.field c.if-field-eq0.true, omega arith, omega arith)

pub returns-else-field-eq0 : goal.returns-else-field-eq0
returns-else-field-eq0 c = (q_256 c.args.field c.if-field-eq0.false, omega arith, omega arith)
