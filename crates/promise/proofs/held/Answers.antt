use mathlib.Core.Path.{refl}
use borrow.Author.Tests.{eq-eqb, ne_eqb}
use Rattle.algebra.specs.Sequence.{at}
use Rattle.code.specs.Decoding.{lost}
use Rattle.promise.proofs.held.Goals as goal

pub returns-then-marks-p-eq1 : goal.returns-then-marks-p-eq1
unfolding lost
returns-then-marks-p-eq1 c = let a = c.args in rw (eq-eqb (at a.marks.now a.p) 1 c.if-marks-p-eq1.true) refl

-- a kept slot is in the codeword
pub bounds-codeword-p : goal.bounds-codeword-p
unfolding lost
bounds-codeword-p c = c.requires.2 (ne_eqb (at c.args.marks.now c.args.p) 1 c.if-marks-p-eq1.false)

pub returns : goal.returns
unfolding lost
returns c = let a = c.args in rw (ne_eqb (at a.marks.now a.p) 1 c.if-marks-p-eq1.false) refl
