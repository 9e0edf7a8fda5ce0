use native.Mathlib.Omega.{arith}
use Rattle.tile_strips.proofs.Moving.{loaded}
use Rattle.tile_strips.proofs.load_part.Goals as goal

pub returns : goal.returns
returns c =
    let t = c.turn in
    let a = c.args in
    loaded a.strips.now a.l a.m a.c a.o c.copy.new.target a.tiles.now t.new.to
    (λ i. omega (arith, c.shared_slice_known-1.given i)) c.copy.ensures t.ensures
