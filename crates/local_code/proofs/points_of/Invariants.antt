use Rattle.algebra.proofs.Filling.{Filled}
use Rattle.code.specs.Shape.{point_at}
use Rattle.local_code.proofs.points_of.Given as goal

abbrev pub invariant-loop-i : goal.invariant-loop-i
invariant-loop-i l = Filled (point_at l.shape l.group) l.i l.initial.points l.points
