-- What a step of the writer leaves behind. Assumes nothing: these are definitions.
--   put_slots s ws ms p    == the sheet s with the words of the slots below p written after its first word
use Rattle.std.specs.Prelude.{List, ◌++◌, ℕ, ◌+◌, ◌*◌, take, drop}
use Rattle.algebra.specs.Sequence.{tabulate}
use Rattle.words.specs.Word.{bytes, slot_word}

unfoldable pub put_slots : (sheet word marks : List ℕ) → (p : ℕ) → List ℕ
put_slots s ws ms p = take 4 s ++ bytes (tabulate (slot_word ws ms) p) ++ drop (4 * (p + 1)) s
