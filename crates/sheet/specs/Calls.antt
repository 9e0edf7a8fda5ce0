-- What the sheet's reader and writer answer and leave behind. Assumes nothing: these are definitions.
--   body_refusal, sheet_refusal s    == the questions on a sheet's words; on all its bytes
--   read_refusal s a b               == the reader's questions, for buffers of a and b bytes
--   write_refusal c ws ms l          == the writer's, for a sheet of l bytes
--   no_code                          == the code of a refused sheet: five zeros
--   Sheet, sheet_answer r            == a refusal number and a code: 0 and the code that is read, or the refusal and no code
--   ReadSays, WriteSays            == the answer, and every byte of every buffer
use Rattle.std.specs.Prelude.{◌≡◌, cond, ◌&&◌, Result, Ok, Err, List, ◌++◌, ℕ, ◌+◌, ◌*◌, ◌/◌, ◌%◌, leb, eqb, length, drop}
use Rattle.algebra.specs.Sequence.{every, all_below}
use Rattle.code.specs.Question.{ask, or_ask}
use Rattle.code.specs.Family.{single, code_refusal}
use Rattle.code.specs.Answer.{Fills}
use Rattle.code.specs.Erasure.{kept_below}
use Rattle.code.specs.declared.Code.{Code}
use Rattle.refusal.specs.Refusal.{number}
use Rattle.refusal.specs.declared.Refusal.{Refusal}
use Rattle.words.specs.Word.{word_at, kind, end_word, slot_fits}
use Rattle.sheet.specs.Sheet.{middle_word, sheet_of, code_in, symbols_in, marks_in}

-- 13, 14, 6, 15: asked of a sheet whose first word is this code's
unfoldable pub body_refusal : Code → (sheet : List ℕ) → ℕ
body_refusal c s =
    ask (eqb (length s / 4) (c.n + 2)) 13
    (ask (every (λ p. slot_fits p (middle_word s p)) c.n) 14
    (ask (kept_below (single c) (symbols_in s) (marks_in s)) 6 (ask (eqb (word_at s (c.n + 1)) (end_word c.n)) 15 0)))

-- 11, 12, then 1 to 4 and 17, then the body's
unfoldable pub sheet_refusal : (sheet : List ℕ) → ℕ
sheet_refusal s =
    ask (eqb (length s % 4) 0) 11
    (ask (leb 1 (length s / 4) && eqb (kind (word_at s 0)) 1) 12 (or_ask (code_refusal (code_in s)) (body_refusal (code_in s) s)))

-- 5 first
unfoldable pub read_refusal : (sheet : List ℕ) → (word marks : ℕ) → ℕ
read_refusal s a b = ask (leb 255 a && leb 255 b) 5 (sheet_refusal s)

-- 1 to 4 and 17, then 5, 8, 6
unfoldable pub write_refusal : Code → (word marks : List ℕ) → (sheet : ℕ) → ℕ
write_refusal c ws ms l =
    or_ask (code_refusal c)
    (ask (eqb (length ws) c.n && (eqb (length ms) c.n && eqb l (4 * (c.n + 2)))) 5
    (ask (all_below 2 ms) 8 (ask (kept_below (single c) ws ms) 6 0)))

unfoldable pub no_code : Code
no_code = record { field = 0; r = 0; n = 0; k = 0; wiring = 0 }

pub record Sheet : Type 0 where
  pub refusal : ℕ
  pub code : Code

abbrev pub sheet_answer : Result Code Refusal → Sheet
sheet_answer (Ok c) = record { refusal = 0; code = c }
sheet_answer (Err e) = record { refusal = number e; code = no_code }

-- the first n bytes of both buffers are written; a and d are the buffers before, b and e after
pub record ReadSays (s a b d e : List ℕ) (x : Sheet) : Type 0 where
  pub code : x.code ≡ cond (eqb (read_refusal s (length a) (length d)) 0) (code_in s) no_code
  pub word : Fills (read_refusal s (length a) (length d)) (symbols_in s ++ drop (code_in s).n a) x.refusal a b
  pub marks : Fills (read_refusal s (length a) (length d)) (marks_in s ++ drop (code_in s).n d) x.refusal d e

unfoldable pub WriteSays : Code → (word marks : List ℕ) → (x : ℕ) → (before after : List ℕ) → Type 0
WriteSays c ws ms x a z = Fills (write_refusal c ws ms (length a)) (sheet_of c ws ms) x a z
