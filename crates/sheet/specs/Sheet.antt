-- The sheet of a stripe, and what a sheet says. Assumes nothing: these are definitions.
--   sheet_words c ws ms, sheet_of c ws ms    == the words of the sheet of a code, a word and its marks; their bytes
--   middle_word s p                          == the word of slot p in the sheet s
--   code_in s, symbols_in s, marks_in s      == what a sheet says
use Rattle.std.specs.Prelude.{List, [], ◌∷◌, ◌++◌, ℕ, ◌+◌}
use Rattle.algebra.specs.Sequence.{tabulate}
use Rattle.code.specs.declared.Code.{Code}
use Rattle.words.specs.Word.{bytes, word_at, code_word, end_word, slot_word, word_code, word_symbol, word_mark}

-- one code word, then slots 0 to n - 1 in order, then the end with the number n
unfoldable pub sheet_words : Code → (word marks : List ℕ) → List ℕ
sheet_words c ws ms = code_word c ∷ (tabulate (slot_word ws ms) c.n ++ (end_word c.n ∷ []))

unfoldable pub sheet_of : Code → (word marks : List ℕ) → List ℕ
sheet_of c ws ms = bytes (sheet_words c ws ms)

-- the word of a slot stands after the code word
unfoldable pub middle_word : (sheet : List ℕ) → (slot : ℕ) → ℕ
middle_word s p = word_at s (p + 1)

unfoldable pub code_in : (sheet : List ℕ) → Code
code_in s = word_code (word_at s 0)

unfoldable pub symbols_in : (sheet : List ℕ) → List ℕ
symbols_in s = tabulate (λ p. word_symbol (middle_word s p)) (code_in s).n

unfoldable pub marks_in : (sheet : List ℕ) → List ℕ
marks_in s = tabulate (λ p. word_mark (middle_word s p)) (code_in s).n
