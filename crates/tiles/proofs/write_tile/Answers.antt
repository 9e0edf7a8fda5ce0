use mathlib.Core.Path.{ap, ◌∙◌}
use Prim.Native.Nat.{ℕ}
use lib.ListN.{length-replicate}
use Rattle.algebra.specs.Sequence.{tabulate}
use Rattle.tiles.proofs.Tiles.{held_first, held_next, held_tiled}
use Rattle.tiles.proofs.write_tile.Goals as goal

pub loop-m-init : goal.loop-m-init
loop-m-init g c = held_first (c.set_row.ensures ∙ ap (tabulate _) (length-replicate {A = ℕ} g.row.N 0))

pub loop-m-preserved : goal.loop-m-preserved
loop-m-preserved g c = held_next c.loop-m-test.true c.loop-m.invariant c.double.ensures c.add_row.ensures.1

pub returns : goal.returns
returns g c = held_tiled c.loop-m-test.false c.loop-m.invariant c.copy.ensures
