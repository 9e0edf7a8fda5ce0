-- What losses and first_broken answer. Assumes nothing: these are definitions.
--   marks_refusal n s ms       == the refusal n of the shape's numbers, then questions 5 and 8
--   LossesSays, FirstSays    the answer of each
use Rattle.std.specs.Prelude.{List, ℕ, eqb, length}
use Rattle.algebra.specs.Sequence.{all_below}
use Rattle.code.specs.Question.{ask, or_ask}
use Rattle.code.specs.Answer.{Answers}
use Rattle.code.specs.Erasure.{lost_number, first_broken}
use Rattle.code.specs.declared.Shape.{Shape}
use Rattle.code.specs.declared.Answer.{Answer}

unfoldable pub marks_refusal : (refusal : ℕ) → Shape → (marks : List ℕ) → ℕ
marks_refusal n s ms = or_ask n (ask (eqb (length ms) s.n) 5 (ask (all_below 2 ms) 8 0))

unfoldable pub LossesSays : (refusal : ℕ) → Shape → (marks : List ℕ) → Answer → Type 0
LossesSays n s ms x = Answers (marks_refusal n s ms) (lost_number s ms) x

unfoldable pub FirstSays : (refusal : ℕ) → Shape → (marks : List ℕ) → Answer → Type 0
FirstSays n s ms x = Answers (marks_refusal n s ms) (first_broken s ms) x
