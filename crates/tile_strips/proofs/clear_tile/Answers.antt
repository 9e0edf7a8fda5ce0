use native.Mathlib.Omega.{arith}
use Rattle.std.proofs.lemmas.Grind.{elements}
use Rattle.tile_strips.proofs.Moving.{cleared}
use Rattle.tile_strips.proofs.clear_tile.Goals as goal

pub returns : goal.returns
returns c = cleared c.args.o c.args.tiles.now _ (grind (arith, elements))
