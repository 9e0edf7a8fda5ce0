-- What writing a word asks, and leaves behind. Assumes nothing: these are definitions.
--   Narrow c          == the numbers of the code fit their bits of a code word
--   put_word s i w    == the bytes s with w written as word i
use Rattle.std.specs.Prelude.{List, ◌++◌, ℕ, ◌+◌, ◌*◌, ◌<◌, take, drop}
use Rattle.code.specs.declared.Code.{Code}
use Rattle.words.specs.Word.{word_bytes}

abbrev pub Narrow : Code → Type 0
Narrow c = (c.wiring < 2) × (c.field < 8) × (c.r < 256) × (c.n < 256) × (c.k < 256)

unfoldable pub put_word : (sheet : List ℕ) → (i w : ℕ) → List ℕ
put_word s i w = take (4 * i) s ++ word_bytes w ++ drop (4 * i + 4) s
