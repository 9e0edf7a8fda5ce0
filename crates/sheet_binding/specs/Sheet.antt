-- What the C function for the sheet's reader writes. Assumes nothing: these are definitions.
--   reader_refusal s a b l  == question 5 of the buffers for the word (a bytes), the marks (b bytes) and the code (l numbers), then the reader's
--   ReadFills              == the first n bytes of word and marks, and the code's five numbers; all unchanged on a refusal
use Rattle.std.specs.Prelude.{List, ◌++◌, ℕ, eqb, length, drop}
use Rattle.code.specs.Question.{ask}
use Rattle.code.specs.Answer.{Fills}
use Rattle.sheet.specs.Sheet.{code_in, symbols_in, marks_in}
use Rattle.sheet.specs.Calls.{read_refusal}
use Rattle.binding.specs.Pack.{code_row}

unfoldable pub reader_refusal : (sheet : List ℕ) → (word marks code : ℕ) → ℕ
reader_refusal s a b l = ask (eqb l 5) 5 (read_refusal s a b)

-- the word a has become b, the marks d e, the code f g
pub record ReadFills (s : List ℕ) (x : ℕ) (a b d e f g : List ℕ) : Type 0 where
  pub word : Fills (reader_refusal s (length a) (length d) (length f)) (symbols_in s ++ drop (code_in s).n a) x a b
  pub marks : Fills (reader_refusal s (length a) (length d) (length f)) (marks_in s ++ drop (code_in s).n d) x d e
  pub code : Fills (reader_refusal s (length a) (length d) (length f)) (code_row (code_in s)) x f g
