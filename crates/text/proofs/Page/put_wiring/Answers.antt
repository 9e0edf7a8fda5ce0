use mathlib.Core.Path.{sym, ap}
use mathlib.Core.Bool.{cond}
use mathlib.Core.List.{[]}
use native.Mathlib.Omega.{arith}
use borrow.Author.Tests.{eq-eqb, ne_eqb}
use Rattle.text.specs.Text.{spaced, wiring_mark}
use Rattle.text.proofs.Puts.{wrote_as, wrote_none}
use Rattle.text.proofs.Page.put_wiring.Goals as goal

pub returns-then-unwired : goal.returns-then-unwired
unfolding wiring_mark
returns-then-unwired c =
    let a = c.args in
    (wrote_as (ap (λ b. cond b (spaced a.wiring) []) (sym (ne_eqb a.wiring 1 c.if-unwired.true))) (wrote_none a.self.now), omega arith)

pub returns : goal.returns
unfolding wiring_mark
returns c =
    let a = c.args in
    let p = c.put_spaced.ensures in
    (wrote_as (ap (λ b. cond b (spaced a.wiring) []) (sym (eq-eqb a.wiring 1 c.if-unwired.false))) p.0, p.1)
