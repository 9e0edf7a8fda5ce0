use mathlib.Core.Path.{refl}
use native.Mathlib.Omega.{arith}
use borrow.Author.Tests.{lt-ltb, le-ltb}
use Rattle.layout.specs.Step.{mate_steps}
use Rattle.layout.proofs.mate_steps.Goals as goal

pub returns-then-i-member : goal.returns-then-i-member
unfolding mate_steps
returns-then-i-member c = let a = c.args in rw (le-ltb a.i a.member c.if-i-member.true) (omega arith)

pub returns : goal.returns
unfolding mate_steps
returns c = let a = c.args in rw (lt-ltb a.i a.member c.if-i-member.false) refl
