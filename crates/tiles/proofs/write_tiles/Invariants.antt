use Prim.Native.Nat.{◌-◌}
use lib.ListN.{length}
use Rattle.tiles.specs.Step.{Rebuilt}
use Rattle.tiles.proofs.write_tiles.Given as goal

abbrev pub invariant-loop-c : goal.invariant-loop-c
invariant-loop-c g l = Rebuilt l.strips l.offsets l.counts l.c l.initial.output l.output

abbrev pub decreases-loop-c : goal.decreases-loop-c
decreases-loop-c g l = length l.initial.output - l.c
