use Rattle.group_folding.specs.Fold.{PlaceLoaded}
use Rattle.group_folding.proofs.load_place.Given as goal

abbrev pub invariant-loop-a : goal.invariant-loop-a
invariant-loop-a l = PlaceLoaded l.shape l.l l.messages l.c l.b l.a l.tiles
