use Rattle.group_plans.specs.Plan.{level_at}
use Rattle.group_plans.proofs.Several.{Several}
use Rattle.group_plans.proofs.plan_groups.Given as goal

abbrev pub invariant-loop-j : goal.invariant-loop-j
invariant-loop-j l = Several (level_at l.shape) l.blocks l.g l.j l.plan
