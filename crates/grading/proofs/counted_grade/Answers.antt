use mathlib.Core.Path.{refl}
use native.Mathlib.Omega.{arith}
use borrow.Author.Tests.{eq-eqb, ne_eqb, le-leb, lt-leb}
use Rattle.code.specs.Codeword.{guarantee}
use Rattle.grading.specs.Step.{counted}
use Rattle.grading.proofs.counted_grade.Goals as goal

pub returns-then-lost-eq0 : goal.returns-then-lost-eq0
unfolding counted
returns-then-lost-eq0 c = rw (eq-eqb c.args.lost 0 c.if-lost-eq0.true) refl

pub returns-then-first-eq255 : goal.returns-then-first-eq255
unfolding counted
returns-then-first-eq255 c = let a = c.args in rw (ne_eqb a.lost 0 c.if-lost-eq0.false, eq-eqb a.first 255 c.if-first-eq255.true) refl

pub returns-then-lost-sure : goal.returns-then-lost-sure
unfolding counted
returns-then-lost-sure c =
    let a = c.args in
    rw (ne_eqb a.lost 0 c.if-lost-eq0.false, ne_eqb a.first 255 c.if-first-eq255.false, le-leb a.lost (guarantee a.shape) (omega (arith, c.guarantee_of-sure.ensures, c.if-lost-sure.true))) refl

pub returns : goal.returns
unfolding counted
returns c =
    let a = c.args in
    rw (ne_eqb a.lost 0 c.if-lost-eq0.false, ne_eqb a.first 255 c.if-first-eq255.false, lt-leb a.lost (guarantee a.shape) (omega (arith, c.guarantee_of-sure.ensures, c.if-lost-sure.false))) refl
