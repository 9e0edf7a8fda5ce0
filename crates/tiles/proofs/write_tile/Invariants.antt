use Rattle.tiles.proofs.Tiles.{Held}
use Rattle.tiles.proofs.write_tile.Given as goal

abbrev pub invariant-loop-m : goal.invariant-loop-m
invariant-loop-m g l = Held g.row.N l.strips l.offsets l.counts l.c l.m l.t
