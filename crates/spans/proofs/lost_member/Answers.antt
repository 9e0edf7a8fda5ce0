use mathlib.Core.Bool.{Bool}
use Prim.Native.Nat.{ℕ, ◌*◌}
use native.Mathlib.Omega.{arith}
use borrow.Author.Count.{below_more}
use borrow.Author.Tests.{ne_eqb}
use Rattle.algebra.specs.Sequence.{at}
use Rattle.code.specs.Decoding.{lost}
use Rattle.algebra.proofs.Counting.{count_none}
use Rattle.spans.proofs.lost_member.Goals as goal

pub loop-i-init : goal.loop-i-init
loop-i-init c = λ k h. absurd (omega arith)

pub overflow_mul-i : goal.overflow_mul-i
overflow_mul-i c = omega (arith, c.requires.0 c.loop-i.i c.loop-i-test.true)

pub bounds-marks-i : goal.bounds-marks-i
bounds-marks-i c = c.requires.0 c.loop-i.i c.loop-i-test.true

pub returns-then-marks-i-eq1 : goal.returns-then-marks-i-eq1
returns-then-marks-i-eq1 c = (omega arith, c.if-marks-i-eq1.true)

pub loop-i-preserved : goal.loop-i-preserved
loop-i-preserved c = below_more _ _ c.loop-i.invariant c.if-marks-i-eq1.false

pub returns : goal.returns
unfolding lost
returns c =
    let a = c.args in
    let m : ℕ → Bool = λ i. lost a.marks.now (i * a.step) in
    let z = count_none m a.number (λ i h. ne_eqb (at a.marks.now (i * a.step)) 1 (c.loop-i.invariant i (omega arith))) in
    absurd (omega (arith, c.requires.1))
