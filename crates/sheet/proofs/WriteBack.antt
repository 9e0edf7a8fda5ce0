-- Writing what was read gives the sheet back, and so a sheet is the only one of what it says. Assumes nothing.
--   stripe_again              what the reader found is a stripe that the writer accepts
--   writes_back, one_sheet    of specs/Promise.antt
use mathlib.Core.Path.{◌≡◌, refl, sym, ap, ap₂, ◌∙◌, subst}
use mathlib.Core.Bool.{Bool, true, false, cond}
use mathlib.Core.List.{List, [], ◌∷◌, ◌++◌}
use Prim.Native.Nat.{ℕ, zero, suc, ◌+◌, ◌*◌, ◌<◌}
use native.Mathlib.Decide.{ℕ_discrete}
use native.Mathlib.Numerals.{add-one}
use native.Mathlib.Omega.{arith}
use lib.Dec.{T, eqb}
use lib.ListN.{length}
use Rattle.algebra.specs.Sequence.{at, tabulate, all_below}
use Rattle.algebra.proofs.Booleans.{so}
use Rattle.algebra.proofs.Tabulate.{length_tabulate, at_tabulate, tabulate_is, tabulate_same}
use Rattle.algebra.proofs.Every.{every_at}
use Rattle.algebra.proofs.Below.{all_below_intro}
use Rattle.code.specs.Decoding.{lost}
use Rattle.code.specs.declared.Code.{Code}
use Rattle.words.specs.Word.{word_at, kind, code_word, end_word, kept_word, slot_word, bytes, slot_fits, word_symbol, word_mark}
use Rattle.sheet.specs.Sheet.{middle_word, sheet_words, sheet_of, code_in, symbols_in, marks_in}
use Rattle.sheet.specs.Promise.{WritesBack, OneSheet}
use Rattle.words.specs.Step.{Narrow}
use Rattle.words.proofs.Words.{word_of_code}
use Rattle.words.proofs.Slots.{made, made_back}
use Rattle.words.proofs.Rows.{bytes_words}
use Rattle.sheet.proofs.Order.{length_sheet_words, first_word, slot_word_at, last_word}
use Rattle.sheet.proofs.Accepted.{small_code, GoodSheet, read_good, GoodStripe, stripe_passes}

-- what the reader found in a sheet is a stripe that the writer accepts
module _ (s : List ℕ) (g : GoodSheet s) where
  all_words : 4 * ((code_in s).n + 2) ≡ length s
  all_words = omega (arith, g.whole, g.words)

  mark_below : (w : ℕ) → word_mark w < 2
  unfolding word_mark
  mark_below w = go (eqb (kind w) 3)
    where
      go : (b : Bool) → cond b 1 0 < 2
      go true = omega arith
      go false = omega arith

  pub stripe_again : GoodStripe (code_in s) (symbols_in s) (marks_in s) (length s)
  unfolding symbols_in marks_in
  stripe_again =
      let m : ℕ → ℕ = λ p. word_mark (middle_word s p) in
      let l : length (tabulate m (code_in s).n) ≡ (code_in s).n = length_tabulate m (code_in s).n in
      record {
        code = g.code;
        word = length_tabulate (λ p. word_symbol (middle_word s p)) (code_in s).n;
        marks = l;
        sheet = sym all_words;
        marked =
            all_below_intro 2 (tabulate m (code_in s).n)
            (λ p h. let i : p < (code_in s).n = omega arith in rw (at_tabulate m 0 (code_in s).n p i) (mark_below (middle_word s p)));
        kept = g.kept;
      }

-- the words that the writer makes of what the reader found are the sheet's
module _ (s : List ℕ) (bytes_of : T (all_below 256 s)) (g : GoodSheet s) where
  code_fits : Narrow (code_in s)
  code_fits = small_code (code_in s) g.code

  again : (p : ℕ) → p < (code_in s).n → slot_word (symbols_in s) (marks_in s) p ≡ middle_word s p
  unfolding slot_word symbols_in marks_in lost
  again p h =
      ap₂ (λ m x. made (eqb m 1) p x) (at_tabulate (λ p. word_mark (middle_word s p)) 0 (code_in s).n p h)
      (at_tabulate (λ p. word_symbol (middle_word s p)) 0 (code_in s).n p h)
      ∙ made_back p (middle_word s p) (omega (arith, code_fits)) (every_at (λ p. slot_fits p (middle_word s p)) (code_in s).n g.slots p h)

  word_again : (i : ℕ) → i < (code_in s).n + 2 → at (sheet_words (code_in s) (symbols_in s) (marks_in s)) i ≡ word_at s i
  unfolding code_in middle_word
  word_again zero h = first_word (code_in s) (symbols_in s) (marks_in s) ∙ word_of_code (word_at s 0) g.first
  word_again (suc p) h =
      subst (λ i. at (sheet_words (code_in s) (symbols_in s) (marks_in s)) i ≡ word_at s i) (add-one p) (go (ℕ_discrete p (code_in s).n))
    where
      go : Dec (p ≡ (code_in s).n) → at (sheet_words (code_in s) (symbols_in s) (marks_in s)) (p + 1) ≡ word_at s (p + 1)
      go (yes e) = rw e (last_word (code_in s) (symbols_in s) (marks_in s) ∙ sym g.last)
      go (no n) = let h : p < (code_in s).n = omega arith in slot_word_at (code_in s) (symbols_in s) (marks_in s) p h ∙ again p h

  sheet_again : sheet_of (code_in s) (symbols_in s) (marks_in s) ≡ s
  unfolding sheet_of
  sheet_again =
      ap bytes
      (tabulate_is (word_at s) 0 ((code_in s).n + 2) (sheet_words (code_in s) (symbols_in s) (marks_in s))
      (length_sheet_words (code_in s) (symbols_in s) (marks_in s)) word_again)
      ∙ bytes_words s ((code_in s).n + 2) bytes_of (all_words s g)

pub writes_back : WritesBack
unfolding WritesBack
writes_back s a =
    let g = (read_good s 255 255 a.accepted).2 in
    record {
      accepted = sym (stripe_passes (code_in s) (symbols_in s) (marks_in s) (length s) (stripe_again s g));
      same = sheet_again s (so a.byte) g;
    }

-- a sheet holds nothing of a lost slot's symbol
sheet_kept : (c : Code) (ws vs ms : List ℕ) → ((p : ℕ) → p < c.n → lost ms p ≡ false → at ws p ≡ at vs p) → sheet_of c ws ms ≡ sheet_of c vs ms
unfolding sheet_of sheet_words slot_word
sheet_kept c ws vs ms h =
    ap (λ t. bytes (code_word c ∷ (t ++ (end_word c.n ∷ []))))
    (tabulate_same 0 (slot_word ws ms) (slot_word vs ms) c.n (λ p b. go p (lost ms p) (h p b)))
  where
    go : (p : ℕ) (l : Bool) → (l ≡ false → at ws p ≡ at vs p) → made l p (at ws p) ≡ made l p (at vs p)
    go p true e = refl
    go p false e = ap (kept_word p) (e refl)

pub one_sheet : OneSheet
unfolding OneSheet WritesBack
one_sheet s t a b e m h =
    sym (writes_back s a).same
    ∙ sheet_kept (code_in s) (symbols_in s) (symbols_in t) (marks_in s) h
    ∙ ap₂ (λ c ms. sheet_of c (symbols_in t) ms) e m
    ∙ (writes_back t b).same
