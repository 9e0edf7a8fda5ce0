use mathlib.Core.Path.{ap, ◌∙◌}
use Prim.Native.Nat.{◌+◌}
use native.Mathlib.Omega.{arith}
use Rattle.algebra.specs.Sequence.{at}
use Rattle.field.specs.Field.{plus}
use Rattle.linear.proofs.Rows.{added_more}
use Rattle.linear.proofs.add_row.Goals as goal

pub loop-m-preserved : goal.loop-m-preserved
loop-m-preserved c =
    let i = c.loop-m.invariant in
    let a = c.args in
    let p = c.requires in
    let o = at c.loop-m.work (a.dst + c.loop-m.m) in
    added_more a.field a.work.now c.loop-m.work a.dst a.src a.len a.c c.loop-m.m c.add.result i (omega arith) p.2
    (omega (arith, i.written.size)) (c.add.ensures ∙ ap (plus a.field o) c.product-v.ensures)
