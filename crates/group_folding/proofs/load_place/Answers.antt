use native.Mathlib.Omega.{arith}
use Rattle.code.proofs.Bounds.{n_most}
use Rattle.group_folding.proofs.Folding.{loaded_more}
use Rattle.group_folding.proofs.load_place.Goals as goal

pub blocks_of-blocks-requires : goal.blocks_of-blocks-requires
blocks_of-blocks-requires c =
    let P = c.requires.0.plain.family in
    (P.placed, omega (arith, n_most c.args.shape P.placed, P.k_below))

pub loop-a-preserved : goal.loop-a-preserved
loop-a-preserved c =
    let a = c.args in
    let l = c.loop-a in
    loaded_more a.shape a.l a.messages.now a.c a.b l.a l.tiles _ l.invariant c.load_strip.ensures
