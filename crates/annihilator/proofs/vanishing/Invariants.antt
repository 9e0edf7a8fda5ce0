use Rattle.annihilator.specs.Step.{Vanishes}
use Rattle.annihilator.proofs.vanishing.Given as goal

abbrev pub invariant-loop-i : goal.invariant-loop-i
invariant-loop-i l = Vanishes l.field l.points l.marks l.i l.c l.row
