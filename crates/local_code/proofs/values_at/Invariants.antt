use lib.ListN.{length, drop}
use Rattle.local_code.specs.Step.{ValuesAt}
use Rattle.local_code.proofs.values_at.Given as goal

abbrev pub invariant-loop-i : goal.invariant-loop-i
invariant-loop-i l = ValuesAt l.field (drop l.i l.coefficients) l.points (length l.points) l.values
