use mathlib.Core.Path.{◌≡◌, sym, ap, ◌∙◌, subst}
use Prim.Native.Nat.{◌*◌, ◌-◌, ◌/◌}
use native.Mathlib.Nat.{div-add-mod', mod-lt}
use native.Mathlib.Omega.{arith}
use lib.ListN.{length}
use Rattle.algebra.proofs.Booleans.{so}
use Rattle.shortening.proofs.Basing.{Moving, moving_none, moving_more, moving_done, before_block, block_inside}
use Rattle.shortening.proofs.move_base.Goals as goal

pub loop-block-init : goal.loop-block-init
loop-block-init c =
    let a = c.args in
    let n = length a.row.now in
    let r = a.shape.r in
    moving_none a.shape.field r a.c ((n / r) * r) a.row.now (omega (arith, div-add-mod' n r, mod-lt n c.requires.0.r_least)) (so c.requires.2)

pub loop-block-preserved : goal.loop-block-preserved
loop-block-preserved c =
    let a = c.args in
    let l = c.loop-block in
    let f = a.shape.field in
    let r = a.shape.r in
    let e = before_block l.block r c.loop-block-test.true in
    moving_more f r a.c c.requires.3 ((l.block - 1) * r) a.row.now l.row c.add_block.new.row
    (omega (arith, e, block_inside (length a.row.now) r l.block (omega arith))) c.add_block.ensures
    (subst (λ m. Moving f r a.c m a.row.now l.row) (sym e) l.invariant)

pub returns : goal.returns
returns c =
    let a = c.args in
    let l = c.loop-block in
    let none : l.block ≡ 0 = omega arith in
    let e : l.block * a.shape.r ≡ 0 = ap (λ n. n * a.shape.r) none ∙ omega arith in
    moving_done a.shape c.requires.0 a.c a.row.now l.row c.requires.3 (so c.requires.2)
    (subst (λ m. Moving a.shape.field a.shape.r a.c m a.row.now l.row) e l.invariant)
