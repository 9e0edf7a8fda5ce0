-- What the C function for the sheet's reader answers and writes. Assumes nothing.
--   read_five           question 5 of the code's length
--   read_no, read_yes   what follows from the call's answer where the code has five numbers
--   read_err, read_ok   the same of a refusal and of a code
use mathlib.Core.Path.{◌≡◌, refl, sym, ap, subst, ◌∙◌}
use mathlib.Core.Logic.{◌≢◌}
use mathlib.Core.Bool.{Bool, cond}
use mathlib.Core.List.{List}
use Prim.Native.Nat.{ℕ}
use native.Mathlib.Omega.{arith}
use lib.ListN.{length}
use borrow.Author.Tests.{eq-eqb, ne_eqb}
use Rattle.code.specs.Answer.{Fills}
use Rattle.code.proofs.Questions.{ask_no, ask_yes}
use Rattle.code.proofs.Answers.{fills_no, fills_yes, fills_is, fills_none}
use Rattle.sheet.specs.Sheet.{code_in}
use Rattle.sheet.specs.Calls.{read_refusal, no_code, Sheet, ReadSays, sheet_answer}
use Rattle.std.specs.Prelude.{Ok, Err}
use Rattle.code.specs.declared.Code.{Code}
use Rattle.refusal.specs.Refusal.{number}
use Rattle.refusal.specs.declared.Refusal.{Refusal}
use Rattle.refusal.proofs.Refusals.{is_refusal}
use Rattle.binding.specs.Pack.{code_row}
use Rattle.sheet_binding.specs.Sheet.{reader_refusal, ReadFills}

pub read_five : (s a d f : List ℕ) (x : ℕ) → length f ≢ 5 → x ≡ 5 → ReadFills s x a a d d f f
unfolding reader_refusal
read_five s a d f x n g =
    let e = ask_no 5 (read_refusal s (length a) (length d)) (ne_eqb (length f) 5 n) in
    let h : ◌≢◌ {A = ℕ} 5 0 = λ z. omega arith in
    rw g (record { word = fills_no _ _ 5 a a e h refl; marks = fills_no _ _ 5 d d e h refl; code = fills_no _ _ 5 f f e h refl })

-- with five numbers the questions are the reader's
read_room : (s : List ℕ) (a b l : ℕ) → l ≡ 5 → reader_refusal s a b l ≡ read_refusal s a b
unfolding reader_refusal
read_room s a b l e = sym (ask_yes 5 (eq-eqb l 5 e) refl)

module _ (s a b d e f : List ℕ) (y : Sheet) (l : length f ≡ 5) (R : ReadSays s a b d e y) where
  asked : ℕ
  asked = read_refusal s (length a) (length d)

  read_as : (g : List ℕ) → Fills asked (code_row (code_in s)) y.refusal f g → ReadFills s y.refusal a b d e f g
  unfolding asked
  read_as g F =
      let r = read_room s (length a) (length d) (length f) l in
      record { word = rw r R.word; marks = rw r R.marks; code = rw r F }

  pub read_no : y.refusal ≢ 0 → ReadFills s y.refusal a b d e f f
  unfolding asked
  read_no n = read_as f (fills_no asked (code_row (code_in s)) y.refusal f f (fills_is asked _ y.refusal a b R.word) n refl)

  pub read_yes : (g : List ℕ) → y.refusal ≡ 0 → g ≡ code_row y.code → ReadFills s 0 a b d e f g
  unfolding asked
  read_yes g o p =
      let z = fills_none asked _ y.refusal a b o R.word in
      let k = R.code ∙ ap (λ (t : Bool). cond t (code_in s) no_code) (eq-eqb asked 0 z) in
      subst (λ x. ReadFills s x a b d e f g) o (read_as g (fills_yes asked (code_row (code_in s)) y.refusal f g z o (p ∙ ap code_row k)))

pub read_err : (s a b d e f : List ℕ) (x : ℕ) (r : Refusal) → length f ≡ 5 → ReadSays s a b d e (sheet_answer (Err r)) → x ≡ number r → ReadFills s x a b d e f f
read_err s a b d e f x r l R h = rw h (read_no s a b d e f (sheet_answer (Err r)) l R (is_refusal r))

pub read_ok : (s a b d e f g : List ℕ) (c : Code) → length f ≡ 5 → ReadSays s a b d e (sheet_answer (Ok c)) → g ≡ code_row c → ReadFills s 0 a b d e f g
read_ok s a b d e f g c l R h = read_yes s a b d e f (sheet_answer (Ok c)) l R g refl h
