use mathlib.Core.Path.{◌≡◌}
use mathlib.Core.Bool.{true}
use Rattle.algebra.specs.Sequence.{every}
use Rattle.parity.proofs.Rows.{passes_check}
use Rattle.parity.proofs.pass_checks.Given as goal

abbrev pub invariant-loop-l : goal.invariant-loop-l
invariant-loop-l l = every (passes_check l.shape l.slot l.symbols) l.l ≡ true
