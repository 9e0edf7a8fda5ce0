-- The preview of a stripe as text, byte by byte. Assumes nothing: these are definitions.
--   joined f n             == what f gives for 0, 1, .. n - 1, one behind the other
--   slot_line p g f        == the line of a slot: the grade and the first broken group that follow its loss
--   kept_line s ms p       == the line of slot p where it is kept, else nothing
--   safe s ms p            == slot p is kept, and without it too the kept slots decide every message
--   safe_slot s ms p       == a space and slot p where it is safe, else nothing
--   preview_lines s ms     == a line for each kept slot, and last the safe ones
use Rattle.std.specs.Prelude.{Bool, not, ◌&&◌, cond, List, [], ◌++◌, ℕ, zero, suc}
use Rattle.code.specs.Decoding.{lost, undecided}
use Rattle.code.specs.Erasure.{grade, first_broken}
use Rattle.code.specs.declared.Shape.{Shape}
use Rattle.previewing.specs.Preview.{marked}
use Rattle.text.specs.Text.{ascii, spaced, named, grade_end}

unfoldable pub joined : (ℕ → List ℕ) → ℕ → List ℕ
joined f zero = []
joined f (suc n) = joined f n ++ f n

unfoldable pub slot_line : (slot grade first : ℕ) → List ℕ
slot_line p g f = named "slot" p ++ grade_end g f

unfoldable pub kept_line : Shape → (marks : List ℕ) → (slot : ℕ) → List ℕ
kept_line s ms p = cond (lost ms p) [] (slot_line p (grade s (marked ms p)) (first_broken s (marked ms p)))

unfoldable pub safe : Shape → (marks : List ℕ) → (slot : ℕ) → Bool
safe s ms p = not (lost ms p) && not (undecided s (marked ms p))

unfoldable pub safe_slot : Shape → (marks : List ℕ) → (slot : ℕ) → List ℕ
safe_slot s ms p = cond (safe s ms p) (spaced p) []

unfoldable pub preview_lines : Shape → (marks : List ℕ) → List ℕ
preview_lines s ms = joined (kept_line s ms) s.n ++ ascii "safe" ++ joined (safe_slot s ms) s.n ++ ascii "\n"
