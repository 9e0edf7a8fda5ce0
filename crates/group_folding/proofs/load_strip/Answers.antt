use Prim.Native.Nat.{◌+◌, ◌*◌}
use native.Mathlib.Omega.{arith}
use Rattle.algebra.proofs.Strides.{row_step}
use Rattle.group_folding.proofs.Folding.{symbol_here, symbol_past, set_as}
use Rattle.group_folding.proofs.load_strip.Goals as goal

pub load-requires : goal.load-requires
load-requires c =
    let a = c.args in
    (c.requires.0, c.requires.1, omega (arith, c.requires.2, row_step a.m a.shape.k a.l c.if-m-shape.true), c.requires.3)

pub returns-then-m-shape : goal.returns-then-m-shape
returns-then-m-shape c =
    let a = c.args in
    set_as _ _ a.o a.tiles.now _ (λ t i. symbol_here a.shape a.l a.messages.now a.m (a.c + (t * 32 + i)) c.if-m-shape.true) c.load.ensures

pub returns : goal.returns
returns c =
    let a = c.args in
    set_as _ _ a.o a.tiles.now _ (λ t i. symbol_past a.shape a.l a.messages.now a.m (a.c + (t * 32 + i)) (omega (arith, c.if-m-shape.false))) c.clear_tile.ensures
