use mathlib.Core.Path.{sym, ◌∙◌}
use Rattle.code.proofs.Places.{whole_yes, whole_no}
use Rattle.short_fitting.proofs.solve_within.Goals as goal

pub solve_short-requires : goal.solve_short-requires
solve_short-requires c =
    (c.requires.0, whole_no c.args.shape (λ z. c.if-short.true (c.missing_of-short.ensures ∙ z)), c.requires.1, c.requires.2, c.requires.3)

pub solve_within-requires : goal.solve_within-requires
solve_within-requires c =
    let w = whole_yes c.args.shape (sym c.missing_of-short.ensures ∙ c.if-short.false) in
    (record { plain = c.requires.0.plain; whole_groups = w }, c.requires.0.one, c.requires.1, c.requires.2, c.requires.3)
