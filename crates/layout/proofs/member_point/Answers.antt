use native.Mathlib.Omega.{arith}
use Rattle.field.proofs.Laws.{q_most}
use Rattle.layout.proofs.member_point.Goals as goal

pub overflow_mul-member : goal.overflow_mul-member
overflow_mul-member c = omega (arith, c.requires, q_most c.args.field)

pub overflow_add-group : goal.overflow_add-group
overflow_add-group c = omega (arith, c.requires, q_most c.args.field)
