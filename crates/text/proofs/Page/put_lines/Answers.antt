use mathlib.Core.Path.{sym, ap}
use mathlib.Core.Bool.{cond}
use mathlib.Core.List.{◌++◌}
use native.Mathlib.Omega.{arith}
use borrow.Author.Tests.{eq-eqb, ne_eqb}
use Rattle.text.specs.Text.{refused_line, code_line, losses_line, message_line}
use Rattle.text.specs.Text.{outcome_line, stripe_lines}
use Rattle.text.proofs.Puts.{wrote_then, wrote_as}
use Rattle.text.proofs.Page.put_lines.Goals as goal

pub returns-in-0 : goal.returns-in-0
unfolding stripe_lines outcome_line
returns-in-0 c =
    let a = c.args in
    let p = c.put_code.ensures in
    let q = c.put_losses.ensures in
    let r = c.put_message.ensures in (
      wrote_as
          (ap (λ t. code_line a.code ++ losses_line a.lost a.sure a.grade a.first ++ cond t (message_line a.message.now) (refused_line a.outcome)) (sym (eq-eqb a.outcome 0 c.in-0.is)))
          (wrote_then (wrote_then p.0 q.0 (omega arith)) r.0 (omega arith)),
      omega arith,
    )

pub returns-in_default : goal.returns-in_default
unfolding stripe_lines outcome_line
returns-in_default c =
    let a = c.args in
    let p = c.put_code.ensures in
    let q = c.put_losses.ensures in
    let r = c.put_refused.ensures in (
      wrote_as
          (ap (λ t. code_line a.code ++ losses_line a.lost a.sure a.grade a.first ++ cond t (message_line a.message.now) (refused_line a.outcome)) (sym (ne_eqb a.outcome 0 c.in_default.in_default-own.rest.1)))
          (wrote_then (wrote_then p.0 q.0 (omega arith)) r.0 (omega arith)),
      omega arith,
    )
