-- The words of a sheet, in order. Assumes nothing.
--   length_sheet_words, first_word, slot_word_at, last_word
use mathlib.Core.Path.{◌≡◌, refl, ◌∙◌}
use mathlib.Core.List.{List, [], ◌∷◌}
use Prim.Native.Nat.{ℕ, ◌+◌, ◌<◌}
use native.Mathlib.Numerals.{add-one}
use native.Mathlib.Omega.{arith}
use lib.ListN.{length, length-append, get_or-append}
use lib.Seq.{get_or_at}
use Rattle.algebra.specs.Sequence.{at, tabulate}
use Rattle.algebra.proofs.Tabulate.{length_tabulate, at_tabulate}
use Rattle.code.specs.declared.Code.{Code}
use Rattle.words.specs.Word.{code_word, end_word, slot_word}
use Rattle.sheet.specs.Sheet.{sheet_words}

module _ (c : Code) (ws ms : List ℕ) where
  pub length_sheet_words : length (sheet_words c ws ms) ≡ c.n + 2
  unfolding sheet_words
  length_sheet_words =
      let t = tabulate (slot_word ws ms) c.n in
      let a = length-append t (end_word c.n ∷ []) in
      let b = length_tabulate (slot_word ws ms) c.n in
      omega arith

  pub first_word : at (sheet_words c ws ms) 0 ≡ code_word c
  unfolding sheet_words
  first_word = refl

  pub slot_word_at : (p : ℕ) → p < c.n → at (sheet_words c ws ms) (p + 1) ≡ slot_word ws ms p
  unfolding sheet_words
  slot_word_at p h =
      let t = tabulate (slot_word ws ms) c.n in
      let l : p < length t = rw (length_tabulate (slot_word ws ms) c.n) h in
      rw add-one (get_or-append t (end_word c.n ∷ []) 0 p l ∙ at_tabulate (slot_word ws ms) 0 c.n p h)

  pub last_word : at (sheet_words c ws ms) (c.n + 1) ≡ end_word c.n
  unfolding sheet_words
  last_word = rw add-one (get_or_at (tabulate (slot_word ws ms) c.n) (end_word c.n) [] 0 c.n (length_tabulate (slot_word ws ms) c.n))
