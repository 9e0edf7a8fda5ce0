use Rattle.strip_parity.specs.Step.{CheckRows}
use Rattle.strip_parity.proofs.check_rows.Given as goal

abbrev pub invariant-loop-c : goal.invariant-loop-c
invariant-loop-c l = CheckRows l.shape l.slot l.c l.rows
