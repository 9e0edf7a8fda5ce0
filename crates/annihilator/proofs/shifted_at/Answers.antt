use mathlib.Core.Path.{sym}
use Rattle.annihilator.proofs.Gaps.{shifted_near, shifted_far}
use Rattle.annihilator.proofs.shifted_at.Goals as goal

pub returns-then-e-i : goal.returns-then-e-i
returns-then-e-i c =
    let a = c.args in
    sym (shifted_far a.row.now a.e a.i c.if-e-i.true)

pub returns-else-e-i : goal.returns-else-e-i
returns-else-e-i c =
    let a = c.args in
    sym (shifted_near a.row.now a.e a.i c.if-e-i.false)
