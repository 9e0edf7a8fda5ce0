-- What the local pass answers, and leaves in the word and the marks. Assumes nothing: these are definitions.
--   reads s ms p             == the pass reads slot p: a kept member of a group that can be mended
--   reads_below s ws ms      == every symbol that it reads is below q
--   pass_refusal n s ws ms   the refusal n of the code's numbers, then 5, 8, 6
--   PassSays                the word, the marks and the number of groups repaired; on a refusal nothing changes
use Rattle.std.specs.Prelude.{◌≡◌, Bool, cond, not, ◌&&◌, ◌||◌, List, ℕ, ltb, eqb, length}
use Rattle.algebra.specs.Sequence.{at, every, all_below}
use Rattle.field.specs.Field.{q}
use Rattle.code.specs.declared.Shape.{Shape}
use Rattle.code.specs.declared.Answer.{Answer}
use Rattle.code.specs.Question.{ask, or_ask}
use Rattle.code.specs.Answer.{Answers}
use Rattle.code.specs.Shape.{group}
use Rattle.code.specs.Decoding.{lost}
use Rattle.code.specs.Pass.{mendable, passed, marks_after, mended}

unfoldable pub reads : Shape → (marks : List ℕ) → (slot : ℕ) → Bool
reads s ms p = not (lost ms p) && mendable s ms (group s p)

unfoldable pub reads_below : Shape → (word marks : List ℕ) → Bool
reads_below s ws ms = every (λ p. not (reads s ms p) || ltb (at ws p) (q s.field)) s.n

unfoldable pub pass_refusal : (refusal : ℕ) → Shape → (word marks : List ℕ) → ℕ
pass_refusal n s ws ms =
    or_ask n
    (ask (eqb (length ws) s.n && eqb (length ms) s.n) 5
    (ask (all_below 2 ms) 8
    (ask (reads_below s ws ms) 6 0)))

pub record PassSays (n : ℕ) (s : Shape) (ws ms : List ℕ) (x : Answer) (ws' ms' : List ℕ) : Type 0 where
  pub answer : Answers (pass_refusal n s ws ms) (mended s ws ms) x
  pub word : ws' ≡ cond (eqb (pass_refusal n s ws ms) 0) (passed s ws ms) ws
  pub marks : ms' ≡ cond (eqb (pass_refusal n s ws ms) 0) (marks_after s ws ms) ms
