-- What repair and strip rebuild answer of mates' symbols. Assumes nothing: these are definitions.
--   strips_fit s p l n          == n symbols are a strip of l symbols for each mate of slot p, with l from 1 to 4,096
--   strips_refusal n s p l xs   the refusal n of the code's numbers, then 5, 7, 6 on the mates' strips xs of l symbols each
--   mates_refusal n s p l xs    the same, then 9 unless some codeword has each column at the mates; repair's l is 1
--   RepairSays n s p xs x      == the answer x is the repaired symbol, or a refusal
--   RebuildSays n s p xs x a z == the output a has become the rebuilt strip, or is unchanged on a refusal
use Rattle.std.specs.Prelude.{Bool, ◌&&◌, List, ℕ, ◌*◌, leb, ltb, eqb, length}
use Rattle.algebra.specs.Sequence.{all_below}
use Rattle.field.specs.Field.{q}
use Rattle.code.specs.Shape.{mates_number}
use Rattle.code.specs.Question.{ask, or_ask}
use Rattle.code.specs.Answer.{Answers, Fills}
use Rattle.code.specs.Repair.{repaired, strip}
use Rattle.code.specs.Held.{columns_held}
use Rattle.code.specs.declared.Shape.{Shape}
use Rattle.code.specs.declared.Answer.{Answer}

unfoldable pub strips_fit : Shape → (slot l n : ℕ) → Bool
strips_fit s p l n = (leb 1 l && leb l 4096) && eqb n (mates_number s p * l)

unfoldable pub strips_refusal : (refusal : ℕ) → Shape → (slot l : ℕ) → (strips : List ℕ) → ℕ
strips_refusal n s p l xs =
    or_ask n
    (ask (strips_fit s p l (length xs)) 5
    (ask (ltb p s.n) 7
    (ask (all_below (q s.field) xs) 6 0)))

unfoldable pub mates_refusal : (refusal : ℕ) → Shape → (slot l : ℕ) → (strips : List ℕ) → ℕ
mates_refusal n s p l xs = or_ask (strips_refusal n s p l xs) (ask (columns_held s p l xs) 9 0)

unfoldable pub RepairSays : (refusal : ℕ) → Shape → (slot : ℕ) → (mates : List ℕ) → Answer → Type 0
RepairSays n s p xs x = Answers (mates_refusal n s p 1 xs) (repaired s p xs) x

unfoldable pub RebuildSays : (refusal : ℕ) → Shape → (slot : ℕ) → (strips : List ℕ) → (x : ℕ) → (before after : List ℕ) → Type 0
RebuildSays n s p xs x a z = Fills (mates_refusal n s p (length a) xs) (strip s p (length a) xs) x a z
