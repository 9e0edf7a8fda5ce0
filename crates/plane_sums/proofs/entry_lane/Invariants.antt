use Rattle.plane_sums.proofs.Levels.{SumLane}
use Rattle.plane_sums.proofs.entry_lane.Given as goal

-- the sum of the entries of the tables below h
abbrev pub invariant-loop-h : goal.invariant-loop-h
invariant-loop-h g l = SumLane l.plan l.m l.table l.i l.h l.z
