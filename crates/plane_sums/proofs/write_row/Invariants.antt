use Prim.Native.Nat.{◌*◌}
use Rattle.plane_sums.proofs.Rows.{Risen}
use Rattle.plane_sums.proofs.write_row.Given as goal

abbrev pub invariant-loop-l : goal.invariant-loop-l
invariant-loop-l g l = Risen g.row.G l.plan l.m l.table (l.l * g.row.N) l.t
