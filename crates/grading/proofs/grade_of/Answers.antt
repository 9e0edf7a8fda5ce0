use mathlib.Core.Path.{◌≡◌, sym, ap, ◌∙◌}
use mathlib.Core.Bool.{cond}
use Prim.Native.Nat.{ℕ}
use Rattle.code.specs.Erasure.{grade}
use Rattle.grading.proofs.Grades.{counted_is, grade_past}
use Rattle.grading.proofs.grade_of.Goals as goal
use Rattle.grading.proofs.grade_of.Goals.{After-decided}

pub returns-then-level-ne3 : goal.returns-then-level-ne3
returns-then-level-ne3 c =
    let a = c.args in
    let H = c.requires in
    let l = c.counted_grade-level in
    (l.ensures ∙ counted_is a.shape a.marks.now H.0.plain.family.placed a.lost a.first H.2 H.3 (λ e. c.if-level-ne3.true (l.ensures ∙ e)), c.clear.ensures)

-- past the guarantee, by whether the kept slots decide
past : (c : After-decided) → let a = c.args in cond {A = ℕ} c.decided.result 3 4 ≡ grade a.shape a.marks.now
past c =
    let a = c.args in
    let H = c.requires in
    grade_past a.shape a.marks.now H.0.plain.family.placed a.lost a.first H.2 H.3
    (sym c.counted_grade-level.ensures ∙ c.if-level-ne3.false) c.decided.result c.decided.ensures.0

pub returns-then-decided : goal.returns-then-decided
returns-then-decided c = (sym (ap (λ x. cond {A = ℕ} x 3 4) c.if-decided.true) ∙ past (goal.at.returns-then-decided c).After-decided, c.decided.ensures.1)

pub returns : goal.returns
returns c = (sym (ap (λ x. cond {A = ℕ} x 3 4) c.if-decided.false) ∙ past (goal.at.returns c).After-decided, c.decided.ensures.1)
