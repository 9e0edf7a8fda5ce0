-- What is promised of sheets. Each statement is a type; proofs/Promises.antt proves them all. Assumes nothing: these are statements.
--   SheetLength   a sheet has 4 × (n + 2) bytes
--   ReadsBack     reading a written sheet gives back the code, the marks and the kept symbols, with 0 at the lost slots
--   WritesBack    writing what was read of an accepted sheet gives its bytes
--   OneSheet      an accepted sheet is the only one with its code, its losses and its kept symbols
--   Promises       all of them
use Rattle.std.specs.Prelude.{◌≡◌, true, false, cond, List, ℕ, ◌+◌, ◌*◌, ◌≤◌, ◌<◌, length}
use Rattle.algebra.specs.Sequence.{at, tabulate, all_below}
use Rattle.code.specs.Decoding.{lost}
use Rattle.code.specs.declared.Code.{Code}
use Rattle.sheet.specs.Sheet.{sheet_of, code_in, symbols_in, marks_in}
use Rattle.sheet.specs.Calls.{read_refusal, write_refusal}

-- a sheet of n slots has n + 2 words
unfoldable pub SheetLength : Type 0
SheetLength = (c : Code) (ws ms : List ℕ) → length (sheet_of c ws ms) ≡ 4 * (c.n + 2)

pub record ReadBack (c : Code) (ws ms : List ℕ) : Type 0 where
  pub accepted : (a b : ℕ) → 255 ≤ a → 255 ≤ b → read_refusal (sheet_of c ws ms) a b ≡ 0
  pub code : code_in (sheet_of c ws ms) ≡ c
  pub marks : marks_in (sheet_of c ws ms) ≡ ms
  pub symbols : symbols_in (sheet_of c ws ms) ≡ tabulate (λ p. cond (lost ms p) 0 (at ws p)) c.n

unfoldable pub ReadsBack : Type 0
ReadsBack = (c : Code) (ws ms : List ℕ) → write_refusal c ws ms (4 * (c.n + 2)) ≡ 0 → ReadBack c ws ms

-- a row of bytes that the reader accepts
pub record AcceptedSheet (s : List ℕ) : Type 0 where
  pub byte : all_below 256 s ≡ true
  pub accepted : read_refusal s 255 255 ≡ 0

pub record WriteBack (s : List ℕ) : Type 0 where
  pub accepted : write_refusal (code_in s) (symbols_in s) (marks_in s) (length s) ≡ 0
  pub same : sheet_of (code_in s) (symbols_in s) (marks_in s) ≡ s

unfoldable pub WritesBack : Type 0
WritesBack = (s : List ℕ) → AcceptedSheet s → WriteBack s

unfoldable pub OneSheet : Type 0
OneSheet =
    (s t : List ℕ) → AcceptedSheet s → AcceptedSheet t → code_in s ≡ code_in t → marks_in s ≡ marks_in t
    → ((p : ℕ) → p < (code_in s).n → lost (marks_in s) p ≡ false → at (symbols_in s) p ≡ at (symbols_in t) p) → s ≡ t

pub record Promises : Type 0 where
  pub sheet_length : SheetLength
  pub reads_back : ReadsBack
  pub writes_back : WritesBack
  pub one_sheet : OneSheet
