use Rattle.linear.specs.Step.{Added}
use Rattle.linear.proofs.add_row.Given as goal

abbrev pub invariant-loop-m : goal.invariant-loop-m
invariant-loop-m l = Added l.field l.initial.work l.work l.dst l.src l.m l.c
