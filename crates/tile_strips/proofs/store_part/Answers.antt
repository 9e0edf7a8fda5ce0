use native.Mathlib.Omega.{arith}
use lib.ListN.{replicate}
use Rattle.tile_strips.proofs.Moving.{stored}
use Rattle.tile_strips.proofs.store_part.Goals as goal

pub returns : goal.returns
returns c =
    let k = c.copy in
    let a = c.args in
    stored a.tiles.now a.o a.l a.m a.c (replicate 256 0) c.turn.new.to a.strips.now k.new.target c.requires.1
    (λ i. omega (arith, c.slice_known-2-1.given i)) c.turn.ensures k.ensures
