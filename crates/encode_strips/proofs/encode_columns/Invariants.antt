use Rattle.strip_columns.proofs.Done.{Done}
use Rattle.encode_strips.proofs.encode_columns.Given as goal

abbrev pub invariant-loop-c : goal.invariant-loop-c
invariant-loop-c l = Done l.shape l.l l.messages l.c l.codewords
