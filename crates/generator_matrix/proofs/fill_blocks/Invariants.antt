use lib.ListN.{length}
use Rattle.generator_matrix.proofs.Runs.{Filling}
use Rattle.generator_matrix.proofs.fill_blocks.Given as goal

abbrev pub invariant-loop-m : goal.invariant-loop-m
invariant-loop-m l = Filling l.field l.x l.factor l.e l.r (length l.initial.row) l.m l.head l.initial.row l.row
