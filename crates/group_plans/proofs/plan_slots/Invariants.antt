use Rattle.code.specs.Shape.{point}
use Rattle.group_plans.proofs.Several.{Several}
use Rattle.group_plans.proofs.plan_slots.Given as goal

abbrev pub invariant-loop-p : goal.invariant-loop-p
invariant-loop-p l = Several (point l.shape) l.r l.g l.p l.plan
