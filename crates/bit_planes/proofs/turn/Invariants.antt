use Rattle.bit_planes.proofs.Columns.{TurnedFront}
use Rattle.bit_planes.proofs.turn.Given as goal

abbrev pub invariant-loop-i : goal.invariant-loop-i
invariant-loop-i l = TurnedFront l.from l.m l.o l.i l.initial.to l.to
