use lib.ListN.{length}
use Rattle.algebra.proofs.Filling.{Filled}
use Rattle.kernel.specs.Step.{root_sum}
use Rattle.kernel.proofs.root_sums.Given as goal

abbrev pub invariant-loop-i : goal.invariant-loop-i
invariant-loop-i l = Filled (root_sum l.strips (length l.initial.output) l.o) l.i l.initial.output l.output
