use mathlib.Core.Path.{refl}
use native.Mathlib.Omega.{arith}
use borrow.Author.Tests.{lt-ltb, le-ltb}
use Rattle.layout.specs.Step.{mate_member}
use Rattle.layout.proofs.mate_member.Goals as goal

pub returns-then-i-member : goal.returns-then-i-member
unfolding mate_member
returns-then-i-member c = let a = c.args in rw (lt-ltb a.i a.member c.if-i-member.true) refl

pub returns : goal.returns
unfolding mate_member
returns c = let a = c.args in rw (le-ltb a.i a.member c.if-i-member.false) (omega arith)
