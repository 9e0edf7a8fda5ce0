use Rattle.tile_evaluation.proofs.Planning.{Planning}
use Rattle.tile_evaluation.proofs.plan_powers.Given as goal

abbrev pub invariant-loop-h : goal.invariant-loop-h
invariant-loop-h l = Planning l.x l.n l.g l.m l.h l.initial.plan l.plan
