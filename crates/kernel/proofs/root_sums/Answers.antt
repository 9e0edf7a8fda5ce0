use mathlib.Core.Path.{refl}
use Prim.Native.Nat.{◌+◌}
use native.Mathlib.Omega.{arith}
use lib.ListN.{length}
use Rattle.algebra.specs.Sequence.{at}
use Rattle.algebra.proofs.Filling.{filled_more, filled_all}
use Rattle.kernel.specs.Step.{root_sum}
use Rattle.kernel.proofs.Roots.{root_sum_is}
use Rattle.kernel.proofs.root_sums.Goals as goal

pub loop-i-preserved : goal.loop-i-preserved
loop-i-preserved c =
    let a = c.args in
    let l = c.loop-i in
    let xs = a.strips.now in
    let n = length a.output.now in
    let byte = c.type_inv.strips in
    let t = c.times_root in
    filled_more (root_sum xs n a.o) l.i _ a.output.now l.output (omega (arith, l.invariant.size))
    (root_sum_is (at xs l.i) (at xs (n + l.i)) (at xs (a.o + l.i)) t.result (omega (arith, byte l.i)) (omega (arith, byte (n + l.i)))
    (omega (arith, byte (a.o + l.i))) t.ensures) l.invariant

pub returns : goal.returns
returns c =
    let a = c.args in
    let l = c.loop-i in
    filled_all (root_sum a.strips.now (length a.output.now) a.o) l.i (length a.output.now) a.output.now l.output (omega arith) refl l.invariant
