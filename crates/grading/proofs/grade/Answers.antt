use mathlib.Core.Path.{sym, ◌∙◌}
use Rattle.code.proofs.Accepted.{decodable_of}
use Rattle.grading.proofs.grade.Goals as goal

pub grade_with-requires : goal.grade_with-requires
grade_with-requires c e = rw c.single.ensures (decodable_of c.args.code (sym c.accepted.ensures ∙ e))
