use mathlib.Core.Path.{refl}
use native.Mathlib.Omega.{arith}
use lib.ListN.{length}
use Rattle.algebra.proofs.Strides.{row_step}
use Rattle.strip_columns.proofs.Putting.{front_more}
use Rattle.strip_columns.proofs.put_column.Goals as goal

pub loop-m-preserved : goal.loop-m-preserved
loop-m-preserved c =
    let l = c.loop-m in
    front_more c.args.buffer.now c.args.l c.args.c l.m _ c.args.strips.now l.strips c.requires.0
    (omega (arith, l.invariant.size, c.requires.1, row_step l.m (length c.args.buffer.now) c.args.l (omega arith))) refl l.invariant
