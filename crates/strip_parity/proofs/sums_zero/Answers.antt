use mathlib.Core.Path.{ap, ◌∙◌}
use lib.ListN.{length, take}
use Rattle.algebra.specs.Sequence.{all_below, column}
use Rattle.algebra.proofs.Tabulate.{length_tabulate}
use Rattle.field.specs.Polynomial.{dotted}
use Rattle.strip_parity.proofs.sums_zero.Goals as goal

pub returns : goal.returns
returns c =
    let a = c.args in
    let e = c.weigh_columns.ensures in
    let l = length a.sums.now in
    (c.strips_below.ensures ∙ ap (all_below 1) e, ap length e ∙ length_tabulate (λ i. dotted a.field (take a.r a.weights.now) (column a.r l i a.strips.now)) l)
