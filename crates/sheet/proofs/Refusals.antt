-- How question 6 of a sheet is asked. Assumes nothing.
--   symbols_kept    of the words: a lost symbol is read as 0
use mathlib.Core.Path.{◌≡◌}
use mathlib.Core.List.{List}
use Prim.Native.Nat.{ℕ}
use lib.Dec.{ltb}
use Rattle.algebra.specs.Sequence.{every}
use Rattle.field.specs.Field.{q}
use Rattle.code.specs.Family.{single}
use Rattle.code.specs.Erasure.{kept_below}
use Rattle.code.specs.declared.Code.{Code}
use Rattle.words.specs.Word.{word_symbol}
use Rattle.sheet.specs.Sheet.{middle_word, code_in, symbols_in, marks_in}
use Rattle.sheet.proofs.Accepted.{kept_is}

pub symbols_kept : (c : Code) (s : List ℕ) (m : ℕ) → c ≡ code_in s → m ≡ q c.field
    → every (λ p. ltb (word_symbol (middle_word s p)) m) c.n ≡ kept_below (single c) (symbols_in s) (marks_in s)
symbols_kept c s m e o = rw (o, e) (kept_is s)
