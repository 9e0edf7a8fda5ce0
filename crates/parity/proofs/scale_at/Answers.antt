use mathlib.Core.Path.{sym, ◌∙◌}
use Rattle.parity.proofs.Rows.{scale_whole, scale_short}
use Rattle.parity.proofs.scale_at.Goals as goal

pub returns-then-missing_of-eq0 : goal.returns-then-missing_of-eq0
returns-then-missing_of-eq0 c = let a = c.args in scale_whole a.shape a.x (sym c.missing_of.ensures ∙ c.if-missing_of-eq0.true)

pub returns : goal.returns
returns c =
    let a = c.args in
    scale_short a.shape a.x (λ e. c.if-missing_of-eq0.false (c.missing_of.ensures ∙ e)) c.vanishing_at-h.result c.inverse_of.result c.vanishing_at-h.ensures c.inverse_of.ensures
