use mathlib.Core.Path.{refl}
use native.Mathlib.Omega.{arith}
use lib.ListN.{length}
use Rattle.algebra.proofs.Filling.{filled_all}
use Rattle.columns.proofs.add_strip.Invariants.{entry}
use Rattle.columns.proofs.add_strip.Goals as goal

pub returns : goal.returns
returns c =
    let l = c.loop-i in
    let a = c.args in
    filled_all (entry a.field a.w a.strips.now a.o a.output.now) l.i (length a.output.now) a.output.now l.output (omega (arith, l.invariant.size)) refl l.invariant
