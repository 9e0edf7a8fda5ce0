use Rattle.kernel.proofs.Widening.{Widened}
use Rattle.kernel.proofs.widen.Given as goal

abbrev pub invariant-loop-j : goal.invariant-loop-j
invariant-loop-j l = Widened l.strips l.l l.j l.initial.rows l.rows
