use mathlib.Core.Path.{◌≡◌}
use lib.ListN.{length}
use Rattle.tiles.specs.Step.{Planned}
use Rattle.tiles.proofs.plan.Given as goal

abbrev pub invariant-loop-j : goal.invariant-loop-j
invariant-loop-j l = ((length l.offsets ≡ length l.initial.offsets) × (length l.counts ≡ length l.initial.counts)) × Planned l.weights l.l l.offsets l.counts l.j
