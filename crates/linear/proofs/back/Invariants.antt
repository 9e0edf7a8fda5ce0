use Rattle.linear.proofs.Substitution.{Backing}
use Rattle.linear.proofs.back.Given as goal

abbrev pub invariant-loop-j : goal.invariant-loop-j
invariant-loop-j l = Backing l.field l.k l.work l.j l.solution
