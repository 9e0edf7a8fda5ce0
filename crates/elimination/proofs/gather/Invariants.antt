use Rattle.elimination.proofs.Equations.{Gathering}
use Rattle.elimination.proofs.gather.Given as goal

abbrev pub invariant-loop-p : goal.invariant-loop-p
invariant-loop-p l = Gathering l.shape l.p l.word l.marks l.work
