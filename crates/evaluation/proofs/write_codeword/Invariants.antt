use Rattle.evaluation.proofs.Groups.{GroupsWritten}
use Rattle.evaluation.proofs.write_codeword.Given as goal

abbrev pub invariant-loop-group : goal.invariant-loop-group
invariant-loop-group l = GroupsWritten l.shape l.c l.row l.group l.codeword
