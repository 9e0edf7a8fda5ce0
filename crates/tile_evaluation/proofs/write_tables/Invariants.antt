use Rattle.tile_evaluation.proofs.Tabling.{Tabling}
use Rattle.tile_evaluation.proofs.write_tables.Given as goal

abbrev pub invariant-loop-h : goal.invariant-loop-h
invariant-loop-h l = Tabling l.tiles l.m l.h l.initial.table l.table
