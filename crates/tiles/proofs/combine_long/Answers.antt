use native.Mathlib.Omega.{arith}
use Rattle.tiles.proofs.Rebuilding.{combined_of}
use Rattle.tiles.proofs.combine_long.Goals as goal

pub returns : goal.returns
returns c =
    let p = c.plan in
    let a = c.args in
    let t = c.all_tiles in
    combined_of a.weights.now a.strips.now p.new.offsets p.new.counts _ a.output.now t.new.output
    (λ i. omega (arith, c.type_inv.strips i)) p.ensures t.ensures
