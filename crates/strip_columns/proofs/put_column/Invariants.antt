use Rattle.strip_columns.proofs.Putting.{PutFront}
use Rattle.strip_columns.proofs.put_column.Given as goal

abbrev pub invariant-loop-m : goal.invariant-loop-m
invariant-loop-m l = PutFront l.buffer l.l l.c l.m l.initial.strips l.strips
