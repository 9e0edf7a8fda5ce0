use Rattle.plane_sums.proofs.Tables.{Doubling}
use Rattle.plane_sums.proofs.double_sums.Given as goal

abbrev pub invariant-loop-y : goal.invariant-loop-y
invariant-loop-y l = Doubling l.tiles l.a l.o l.h l.y l.initial.table l.table
