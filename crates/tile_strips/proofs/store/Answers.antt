use native.Mathlib.Omega.{arith}
use Rattle.tile_strips.proofs.Moving.{full_stored}
use Rattle.tile_strips.proofs.store.Goals as goal

pub returns : goal.returns
returns c =
    let t = c.turn in
    let a = c.args in
    full_stored a.tiles.now a.o a.l a.m a.c a.strips.now t.new.to c.if-l-c-lt256.false
    (λ i. omega (arith, c.slice_known-2-1.given i)) t.ensures
