-- What private steps of the grade are handed and answer. Assumes nothing: these are definitions.
--   counted s l f        == the grade as far as the number lost and the first broken group tell it: 3 past the guarantee
--   graded s ms          == the number lost, the grade and the first broken group
--   lengths_refusal n s m b  == the refusal n of the shape's numbers, then question 5 of m marks and b bytes of work
--   Marked s ms b        == what the questions of grade leave: an accepted shape, a mark for every slot, and b bytes of work, as many as are used
use Rattle.std.specs.Prelude.{◌≡◌, cond, ◌&&◌, List, ℕ, ◌+◌, ◌*◌, ◌≤◌, leb, eqb, length}
use Rattle.code.specs.declared.Shape.{Shape}
use Rattle.code.specs.Codeword.{guarantee}
use Rattle.code.specs.Erasure.{lost_number, first_broken, grade}
use Rattle.code.specs.Laws.{Decodable}
use Rattle.code.specs.Question.{ask, or_ask}
use Rattle.code.specs.Work.{used}
use Rattle.grading.specs.declared.Graded.{Graded}

unfoldable pub counted : Shape → (lost first : ℕ) → ℕ
counted s l f = cond (eqb l 0) 0 (cond (eqb f 255) 1 (cond (leb l (guarantee s)) 2 3))

unfoldable pub graded : Shape → (marks : List ℕ) → Graded
graded s ms = record { lost = lost_number s ms; grade = grade s ms; first = first_broken s ms }

unfoldable pub lengths_refusal : (refusal : ℕ) → Shape → (marks work : ℕ) → ℕ
lengths_refusal n s m b = or_ask n (ask (eqb m s.n && leb (used s) b) 5 0)

pub record Marked (s : Shape) (marks : List ℕ) (work : ℕ) : Type 0 where
  pub shape : Decodable s
  pub marks_size : length marks ≡ s.n
  pub work_size : s.n * (s.k + 1) ≤ work
