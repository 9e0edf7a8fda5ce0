use mathlib.Core.Path.{sym, ◌∙◌}
use Rattle.grading.proofs.Grades.{none_lost}
use Rattle.grading.proofs.first_of.Goals as goal

pub returns-then-lost-eq0 : goal.returns-then-lost-eq0
returns-then-lost-eq0 c =
    sym (none_lost c.args.shape c.args.marks.now c.requires.1 (sym c.requires.2 ∙ c.if-lost-eq0.true))
