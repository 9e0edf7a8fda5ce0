use native.Mathlib.Omega.{arith}
use Rattle.tile_strips.proofs.Moving.{full_loaded}
use Rattle.tile_strips.proofs.load.Goals as goal

pub returns : goal.returns
returns c =
    let t = c.turn in
    let a = c.args in
    full_loaded a.strips.now a.l a.m a.c a.o a.tiles.now t.new.to c.if-l-c-lt256.false
    (λ i. omega (arith, c.shared_slice_known-1.given i)) t.ensures
