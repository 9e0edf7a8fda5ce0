use mathlib.Core.Path.{◌≡◌}
use mathlib.Core.Bool.{true}
use lib.ListN.{length}
use Rattle.algebra.specs.Sequence.{every}
use Rattle.strip_parity.specs.Step.{zero_row}
use Rattle.strip_parity.proofs.annulled.Given as goal

abbrev pub invariant-loop-c : goal.invariant-loop-c
invariant-loop-c l =
    every (zero_row l.field l.r (length l.initial.sums) l.rows l.strips) l.c ≡ true
