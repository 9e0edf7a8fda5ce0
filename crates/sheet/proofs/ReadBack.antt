-- Reading a written sheet gives the stripe back. Assumes nothing.
--   sheet_length, reads_back    of specs/Promise.antt
use mathlib.Core.Path.{◌≡◌, sym, ap, ap₂, ◌∙◌, subst}
use mathlib.Core.Bool.{Bool, true, false, cond, ◌||◌}
use mathlib.Core.List.{List}
use Prim.Native.Nat.{ℕ, ◌+◌, ◌*◌, ◌≤◌, ◌<◌}
use native.Mathlib.Omega.{arith}
use lib.Dec.{T, eqb, ltb, ltb→lt, lt→ltb}
use lib.ListN.{length}
use Rattle.algebra.specs.Sequence.{at, tabulate}
use Rattle.algebra.proofs.Booleans.{so}
use Rattle.algebra.proofs.Equality.{Same, same, other, same?}
use Rattle.algebra.proofs.Tabulate.{tabulate_is, tabulate_same}
use Rattle.algebra.proofs.Every.{every_at, every_intro}
use Rattle.algebra.proofs.Below.{all_below_at}
use Rattle.field.specs.Field.{q}
use Rattle.field.proofs.Laws.{q_most}
use Rattle.field.proofs.Elem.{zero_below}
use Rattle.code.specs.Family.{code_refusal}
use Rattle.code.specs.Decoding.{lost}
use Rattle.code.specs.Erasure.{kept_below}
use Rattle.code.specs.declared.Code.{Code}
use Rattle.words.specs.Word.{word_at, kind, code_word, end_word, slot_word, word_code, slot_fits, word_symbol, word_mark}
use Rattle.sheet.specs.Sheet.{middle_word, sheet_words, sheet_of, code_in, symbols_in, marks_in}
use Rattle.sheet.specs.Promise.{SheetLength, ReadsBack}
use Rattle.words.specs.Step.{Narrow}
use Rattle.words.proofs.Words.{kind_code, code_of_word}
use Rattle.words.proofs.Slots.{made, made_mark, made_symbol, made_fits, made_below}
use Rattle.words.proofs.Bytes.{length_bytes}
use Rattle.words.proofs.Rows.{word_at_bytes}
use Rattle.sheet.proofs.Order.{length_sheet_words, first_word, slot_word_at, last_word}
use Rattle.sheet.proofs.Accepted.{small_code, kept_is, enough, GoodSheet, GoodStripe, good_stripe, sheet_passes}

weaken : (b : Bool) (x m n : ℕ) → m ≤ n → T (b || ltb x m) → T (b || ltb x n)
weaken true x m n h t = t
weaken false x m n h t = let l = ltb→lt x m t in lt→ltb x n (omega arith)

bit : (m : ℕ) → m < 2 → m ≡ cond (eqb m 1) 1 0
bit m h = go (eqb m 1) (same? m 1)
  where
    go : (b : Bool) → Same m 1 b → m ≡ cond b 1 0
    go true (same e) = e
    go false (other n) = omega arith

pub sheet_length : SheetLength
unfolding SheetLength sheet_of
sheet_length c ws ms = length_bytes (sheet_words c ws ms) ∙ ap (λ n. 4 * n) (length_sheet_words c ws ms)

-- what the reader finds in a written sheet
module _ (c : Code) (ws ms : List ℕ) (g : GoodStripe c ws ms (4 * (c.n + 2))) where
  small : Narrow c
  small = small_code c g.code

  kept : (p : ℕ) → p < c.n → T (lost ms p || ltb (at ws p) (q c.field))
  unfolding kept_below
  kept p h = every_at (λ p. lost ms p || ltb (at ws p) (q c.field)) c.n g.kept p h

  byte : (p : ℕ) → p < c.n → T (lost ms p || ltb (at ws p) 256)
  byte p h = weaken (lost ms p) (at ws p) (q c.field) 256 (q_most c.field) (kept p h)

  first : word_at (sheet_of c ws ms) 0 ≡ code_word c
  unfolding sheet_of code_word
  first =
      let l = length_sheet_words c ws ms in
      let e = first_word c ws ms in
      let b = small in
      word_at_bytes (sheet_words c ws ms) 0 (omega arith) (omega arith) ∙ e

  middle : (p : ℕ) → p < c.n → middle_word (sheet_of c ws ms) p ≡ made (lost ms p) p (at ws p)
  unfolding sheet_of middle_word slot_word
  middle p h =
      let l = length_sheet_words c ws ms in
      let e = slot_word_at c ws ms p h in
      let b = made_below p (at ws p) (omega (arith, small)) (lost ms p) (byte p h) in
      word_at_bytes (sheet_words c ws ms) (p + 1) (omega arith) (rw e b) ∙ e

  last : word_at (sheet_of c ws ms) (c.n + 1) ≡ end_word c.n
  unfolding sheet_of end_word
  last =
      let l = length_sheet_words c ws ms in
      let e = last_word c ws ms in
      let b = small in
      word_at_bytes (sheet_words c ws ms) (c.n + 1) (omega arith) (omega arith) ∙ e

  code : code_in (sheet_of c ws ms) ≡ c
  unfolding code_in
  code = ap (λ w. word_code w) first ∙ code_of_word c small

  number : (code_in (sheet_of c ws ms)).n ≡ c.n
  number = ap (λ c. c.n) code

  marks : marks_in (sheet_of c ws ms) ≡ ms
  unfolding marks_in lost
  marks =
      let f : ℕ → ℕ = λ p. word_mark (middle_word (sheet_of c ws ms) p) in
      ap (tabulate f) number
      ∙ sym
      (tabulate_is f 0 c.n ms g.marks
      (λ p h.
      bit (at ms p) (all_below_at 2 ms g.marked p (omega (arith, g.marks)))
      ∙ sym (ap word_mark (middle p h) ∙ made_mark p (at ws p) (omega (arith, small)) (lost ms p) (byte p h))))

  symbols : symbols_in (sheet_of c ws ms) ≡ tabulate (λ p. cond (lost ms p) 0 (at ws p)) c.n
  unfolding symbols_in
  symbols =
      let f : ℕ → ℕ = λ p. word_symbol (middle_word (sheet_of c ws ms) p) in
      ap (tabulate f) number
      ∙ tabulate_same 0 f (λ p. cond (lost ms p) 0 (at ws p)) c.n
      (λ p h. ap word_symbol (middle p h) ∙ made_symbol p (at ws p) (omega (arith, small)) (lost ms p) (byte p h))

  low : (f x : ℕ) (b : Bool) → T (b || ltb x (q f)) → 0 < q f → T (ltb (cond b 0 x) (q f))
  low f x true t h = lt→ltb 0 (q f) h
  low f x false t h = t

  good : GoodSheet (sheet_of c ws ms)
  unfolding SheetLength
  good =
      let s : List ℕ = sheet_of c ws ms in
      let l : length s ≡ 4 * (c.n + 2) = sheet_length c ws ms in
      let e = number in
      let i : (p : ℕ) → p < (code_in s).n → p < c.n = λ p h. omega arith in
      let f : (code_in s).field ≡ c.field = ap (λ c. c.field) code in
      record {
        whole = omega arith;
        first = ap (λ w. kind w) first ∙ kind_code c small;
        code = ap code_refusal code ∙ g.code;
        words = omega arith;
        slots =
            every_intro (λ p. slot_fits p (middle_word s p)) (code_in s).n
            (λ p h.
            so (ap (slot_fits p) (middle p (i p h)) ∙ made_fits p (at ws p) (omega (arith, small, i p h)) (lost ms p) (byte p (i p h))));
        kept =
            subst T (kept_is s)
            (every_intro (λ p. ltb (word_symbol (middle_word s p)) (q (code_in s).field)) (code_in s).n
            (λ p h.
            subst T
            (sym (ap₂ (λ x f. ltb x (q f)) (ap word_symbol (middle p (i p h)) ∙ made_symbol p (at ws p) (omega (arith, small, i p h)) (lost ms p) (byte p (i p h))) f))
            (low c.field (at ws p) (lost ms p) (kept p (i p h)) (zero_below c.field))));
        last = ap (λ n. word_at s (n + 1)) e ∙ last ∙ sym (ap end_word e);
      }

pub reads_back : ReadsBack
unfolding ReadsBack
reads_back c ws ms e =
    let g = good_stripe c ws ms (4 * (c.n + 2)) e in
    record {
      accepted = λ a b h k. enough (sheet_of c ws ms) a b h k ∙ sym (sheet_passes (sheet_of c ws ms) (good c ws ms g));
      code = code c ws ms g;
      marks = marks c ws ms g;
      symbols = symbols c ws ms g;
    }
