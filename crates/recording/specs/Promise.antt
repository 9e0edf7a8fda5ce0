-- What is promised of grade beside decode and the record, by their contracts. Each statement is a type; proofs/Promises.antt proves them all.
-- Assumes nothing: these are statements.
--   GradeDecides    grade 4 is where decode answers 10 of every word that some codeword fits, any other grade where it answers 10 of none
--   RecordGrades    a record's outcome is undecided only with grade 4, and decided only with another
--   Promises         all of them
use Rattle.std.specs.Prelude.{◌≡◌, ◌≢◌, true, List, ℕ, ◌≤◌, length}
use Rattle.code.specs.declared.Answer.{Answer}
use Rattle.code.specs.declared.Code.{Code}
use Rattle.code.specs.declared.Shape.{Shape}
use Rattle.code.specs.Codeword.{Codeword}
use Rattle.code.specs.Decoding.{agrees}
use Rattle.code.specs.Laws.{Family}
use Rattle.grading.specs.Grade.{grade_refusal, GradeSays}
use Rattle.decode.specs.Decode.{decode_refusal, DecodeSays}
use Rattle.recording.specs.Recording.{outcome_number, Recorded, RecordSays}

-- y is what grade answers of the marks ms, x what decode answers of the word ws with them
pub record Beside (s : Shape) (ws ms : List ℕ) (y : Answer) (x : ℕ) : Type 0 where
  pub most : y.value ≤ 4
  pub four : y.value ≡ 4 → (cs : List ℕ) → Codeword s cs → agrees s cs ws ms ≡ true → x ≡ 10
  pub others : y.value ≢ 4 → x ≢ 10

unfoldable pub GradeDecides : Type 0
GradeDecides =
    (n : ℕ) (s : Shape) (ws ms : List ℕ) (y : Answer) (x : ℕ) (a z w v o u : List ℕ) → Family s → grade_refusal n s ms (length o) ≡ 0
    → decode_refusal n s ws ms (length a) (length w) ≡ 0 → GradeSays n s ms y o u → DecodeSays n s ws ms x a z w v → Beside s ws ms y x

unfoldable pub RecordGrades : Type 0
RecordGrades =
    (n : ℕ) (c : Code) (s : Shape) (ws ms : List ℕ) (x : Recorded) (a z w v : List ℕ) → Family s
    → decode_refusal n s ws ms (length a) (length w) ≡ 0 → RecordSays n c s ws ms x a z w v
    → (outcome_number x.record.outcome ≡ 10 → x.record.grade ≡ 4) × (outcome_number x.record.outcome ≡ 0 → x.record.grade ≢ 4)

pub record Promises : Type 0 where
  pub grade_decides : GradeDecides
  pub record_grades : RecordGrades
