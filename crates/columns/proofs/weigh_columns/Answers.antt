use mathlib.Core.Path.{◌∙◌}
use lib.ListN.{length}
use Rattle.columns.proofs.Columns.{weighed_first}
use Rattle.columns.proofs.weigh_columns.Goals as goal

pub returns-then-field-eq0 : goal.returns-then-field-eq0
returns-then-field-eq0 c =
    let a = c.args in
    c.plain_columns.ensures ∙ weighed_first a.field a.weights.now a.r (length a.output.now) a.strips.now c.requires.1

pub returns : goal.returns
returns c =
    let a = c.args in
    c.combine.ensures a.field c.if-field-eq0.false ∙ weighed_first a.field a.weights.now a.r (length a.output.now) a.strips.now c.requires.1
