use mathlib.Core.Path.{refl}
use lib.ListN.{replicate}
use Rattle.kernel.proofs.Widening.{combined_widened}
use Rattle.kernel.proofs.combine_short.Goals as goal

pub returns : goal.returns
returns c =
    let a = c.args in
    let rows = c.widen.new.rows in
    let k = c.combine_long in
    combined_widened a.weights.now _ a.strips.now rows a.output.now (replicate 64 0) k.new.output c.copy.new.target refl c.requires.1
    c.widen.ensures k.ensures c.copy.ensures
