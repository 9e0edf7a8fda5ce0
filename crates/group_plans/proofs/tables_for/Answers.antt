use mathlib.Core.Path.{refl}
use mathlib.Core.Logic.{inl, inr}
use native.Mathlib.Omega.{arith}
use borrow.Author.Tests.{lt-ltb, le-ltb}
use Rattle.group_plans.specs.Plan.{tables_for}
use Rattle.group_plans.proofs.tables_for.Goals as goal

pub returns-then-n-gt4 : goal.returns-then-n-gt4
unfolding tables_for
returns-then-n-gt4 c = (rw (lt-ltb 4 c.args.n c.if-n-gt4.true) refl, inr refl, λ h. h)

pub returns-else-n-gt4 : goal.returns-else-n-gt4
unfolding tables_for
returns-else-n-gt4 c = (rw (le-ltb 4 c.args.n (omega (arith, c.if-n-gt4.false))) refl, inl refl, λ h. omega (arith, c.if-n-gt4.false))
