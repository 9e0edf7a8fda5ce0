-- What grade answers. Assumes nothing: these are definitions.
--   grade_refusal n s ms b  == the refusal n of the shape's numbers, then question 5 of the marks and of b bytes of work, then 8
--   GradeSays              the grade with work cleared, or the refusal with work unchanged
use Rattle.std.specs.Prelude.{◌≡◌, ◌&&◌, List, ℕ, zero, suc, eqb, leb, length}
use Rattle.algebra.specs.Sequence.{all_below}
use Rattle.code.specs.Question.{ask, or_ask}
use Rattle.code.specs.Answer.{Answers}
use Rattle.code.specs.Work.{used, cleared}
use Rattle.code.specs.Erasure.{grade}
use Rattle.code.specs.declared.Shape.{Shape}
use Rattle.code.specs.declared.Answer.{Answer}

unfoldable pub grade_refusal : (refusal : ℕ) → Shape → (marks : List ℕ) → (work : ℕ) → ℕ
grade_refusal n s ms b = or_ask n (ask (eqb (length ms) s.n && leb (used s) b) 5 (ask (all_below 2 ms) 8 0))

unfoldable pub GradeAs : (refusal : ℕ) → Shape → (marks : List ℕ) → Answer → (work work_now : List ℕ) → Type 0
GradeAs zero s ms x w v = Answers 0 (grade s ms) x × (v ≡ cleared s w)
GradeAs (suc n) s ms x w v = Answers (suc n) (grade s ms) x × (v ≡ w)

unfoldable pub GradeSays : (refusal : ℕ) → Shape → (marks : List ℕ) → Answer → (work work_now : List ℕ) → Type 0
GradeSays n s ms x w v = GradeAs (grade_refusal n s ms (length w)) s ms x w v
