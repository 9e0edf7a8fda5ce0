use mathlib.Core.Path.{sym, ap}
use mathlib.Core.Bool.{cond}
use mathlib.Core.List.{[]}
use native.Mathlib.Omega.{arith}
use borrow.Author.Tests.{eq-eqb, ne_eqb}
use Rattle.text.specs.Text.{spaced}
use Rattle.text.proofs.Puts.{wrote_as, wrote_none}
use Rattle.preview_lines.proofs.put_safe.Goals as goal

pub returns-then-undecided : goal.returns-then-undecided
returns-then-undecided c =
    let a = c.args in
    (wrote_as (ap (λ b. cond b [] (spaced a.slot)) (sym (eq-eqb a.grade 4 (omega arith)))) (wrote_none a.page.now), omega arith)

pub returns : goal.returns
returns c =
    let a = c.args in
    let p = c.put_spaced.ensures in
    (wrote_as (ap (λ b. cond b [] (spaced a.slot)) (sym (ne_eqb a.grade 4 c.if-undecided.false))) p.0, p.1)
