use mathlib.Core.Path.{◌≡◌}
use lib.ListN.{length}
use Rattle.annihilator.specs.Step.{Gathered}
use Rattle.annihilator.proofs.take_gaps.Given as goal

abbrev pub invariant-loop-j : goal.invariant-loop-j
invariant-loop-j l = (length l.work ≡ length l.initial.work) × Gathered l.field l.t l.size l.r l.row l.j l.work
