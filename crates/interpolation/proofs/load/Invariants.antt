use lib.ListN.{length}
use Rattle.algebra.specs.Sequence.{at}
use Rattle.algebra.proofs.Writing.{Writing}
use Rattle.interpolation.specs.Interpolated.{masked}
use Rattle.interpolation.proofs.load.Given as goal

abbrev pub invariant-loop-p : goal.invariant-loop-p
invariant-loop-p l = Writing (λ i. masked (at l.word i) (at l.marks i)) 0 (length l.marks) l.p l.initial.rests l.rests
