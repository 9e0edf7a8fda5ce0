-- What the reader's answer and buffers tell, where the buffers have room. Assumes nothing.
--   told_refusal           the refusal is the sheet's
--   told_code, told_word, told_marks    of an accepted sheet: its code, and what stands in front of the buffers
--   Told s b e x, told     what follows where the reader did not refuse; b and e are the buffers after it
use mathlib.Core.Path.{◌≡◌, sym, ap, ◌∙◌}
use mathlib.Core.Bool.{cond}
use mathlib.Core.List.{List, ◌++◌}
use Prim.Native.Nat.{ℕ, ◌≤◌}
use lib.ListN.{length, take, drop}
use lib.Seq.{take_at}
use borrow.Author.Tests.{eq-eqb}
use Rattle.algebra.proofs.Tabulate.{length_tabulate}
use Rattle.code.specs.Family.{single, code_refusal}
use Rattle.code.proofs.Answers.{fills_is, fills_in}
use Rattle.code.proofs.Accepted.{plain_of}
use Rattle.code.proofs.Bounds.{n_most, k_most}
use Rattle.words.specs.Word.{word_symbol, word_mark}
use Rattle.sheet.specs.Sheet.{middle_word, code_in, symbols_in, marks_in}
use Rattle.sheet.specs.Calls.{sheet_refusal, read_refusal, no_code, ReadSays}
use Rattle.sheet.specs.Calls.{Sheet}
use Rattle.sheet.proofs.Accepted.{good_sheet, enough}

pub record Told (s b e : List ℕ) (x : Sheet) : Type 0 where
  pub passed : sheet_refusal s ≡ 0
  pub code_is : x.code ≡ code_in s
  pub accepted : code_refusal x.code ≡ 0
  pub few_slots : x.code.n ≤ 255
  pub few_symbols : x.code.k ≤ 240
  pub word_is : take x.code.n b ≡ symbols_in s
  pub marks_are : take x.code.n e ≡ marks_in s

module _ {s a b d e : List ℕ} {x : Sheet} (r : ReadSays s a b d e x) (h : 255 ≤ length a) (g : 255 ≤ length d) where
  same : read_refusal s (length a) (length d) ≡ sheet_refusal s
  same = enough s (length a) (length d) h g

  pub told_refusal : x.refusal ≡ sheet_refusal s
  told_refusal = fills_is (read_refusal s (length a) (length d)) (symbols_in s ++ drop (code_in s).n a) x.refusal a b r.word ∙ same

  pub told_code : sheet_refusal s ≡ 0 → x.code ≡ code_in s
  told_code i = r.code ∙ ap (λ t. cond t (code_in s) no_code) (eq-eqb (read_refusal s (length a) (length d)) 0 (same ∙ i))

  pub told_word : sheet_refusal s ≡ 0 → take (code_in s).n b ≡ symbols_in s
  unfolding symbols_in
  told_word i =
      ap (take (code_in s).n) (fills_in (read_refusal s (length a) (length d)) (symbols_in s ++ drop (code_in s).n a) x.refusal a b (same ∙ i) r.word).1
      ∙ take_at (symbols_in s) (drop (code_in s).n a) (code_in s).n (length_tabulate (λ p. word_symbol (middle_word s p)) (code_in s).n)

  pub told_marks : sheet_refusal s ≡ 0 → take (code_in s).n e ≡ marks_in s
  unfolding marks_in
  told_marks i =
      ap (take (code_in s).n) (fills_in (read_refusal s (length a) (length d)) (marks_in s ++ drop (code_in s).n d) x.refusal d e (same ∙ i) r.marks).1
      ∙ take_at (marks_in s) (drop (code_in s).n d) (code_in s).n (length_tabulate (λ p. word_mark (middle_word s p)) (code_in s).n)

  pub told : x.refusal ≡ 0 → Told s b e x
  told z =
      let i = sym told_refusal ∙ z in
      let c = told_code i in
      let l = plain_of x.code (ap code_refusal c ∙ (good_sheet s i).code) in
      record {
        passed = i;
        code_is = c;
        accepted = ap code_refusal c ∙ (good_sheet s i).code;
        few_slots = n_most (single x.code) l.family.placed;
        few_symbols = k_most (single x.code) l;
        word_is = ap (λ c. take c.n b) c ∙ told_word i;
        marks_are = ap (λ c. take c.n e) c ∙ told_marks i;
      }
