-- What the reader's and the writer's questions say of a sheet that passes them. Assumes nothing.
--   GoodSheet s, good_sheet, read_good    the facts of an accepted sheet
--   small_code                the fields of a code word hold an accepted code
--   kept_is                   question 6, asked of the words
--   read_done                 the reader ends with a code
--   GoodStripe, good_stripe  the facts of a stripe that the writer accepts
--   sheet_passes, stripe_passes    the questions are passed where the facts hold
--   enough                    buffers with room leave the questions on the sheet
use mathlib.Core.Path.{◌≡◌, refl, sym, ap, ap₂, ◌∙◌}
use mathlib.Core.Bool.{Bool, true, false, cond, ◌&&◌, ◌||◌}
use mathlib.Core.List.{List, ◌++◌}
use Prim.Native.Nat.{ℕ, ◌+◌, ◌*◌, ◌/◌, ◌%◌, ◌≤◌}
use native.Mathlib.Omega.{arith}
use lib.Dec.{T, leb, eqb, ltb, eqb→eq, le→leb, leb→le}
use lib.ListN.{length, drop}
use borrow.Author.Tests.{lt-ltb, le-leb, eq-eqb}
use Rattle.algebra.specs.Sequence.{at, every, all_below}
use Rattle.algebra.proofs.Booleans.{so, yes_true, and_left, and_right, and_both}
use Rattle.algebra.proofs.Tabulate.{at_tabulate}
use Rattle.algebra.proofs.Every.{every_same}
use Rattle.field.specs.Field.{q}
use Rattle.field.proofs.Elem.{zero_below}
use Rattle.code.specs.Question.{ask, or_ask}
use Rattle.code.specs.Family.{single, code_refusal}
use Rattle.code.specs.Decoding.{lost}
use Rattle.code.specs.Erasure.{kept_below}
use Rattle.code.specs.declared.Code.{Code}
use Rattle.code.proofs.Questions.{asked, ask_yes, or_ask_on, or_ask_passed}
use Rattle.code.proofs.Answers.{fills_yes}
use Rattle.code.proofs.Accepted.{wiring_of, plain_of}
use Rattle.code.proofs.Bounds.{r_most, n_most, k_most}
use Rattle.sheet.specs.Calls.{Sheet}
use Rattle.words.specs.Word.{word_at, kind, end_word, slot_fits, word_symbol, word_mark}
use Rattle.words.specs.Step.{Narrow}
use Rattle.sheet.specs.Sheet.{middle_word, code_in, symbols_in, marks_in}
use Rattle.sheet.specs.Calls.{body_refusal, sheet_refusal, read_refusal, write_refusal, no_code, ReadSays}

pub record GoodSheet (s : List ℕ) : Type 0 where
  pub whole : length s % 4 ≡ 0
  pub first : kind (word_at s 0) ≡ 1
  pub code : code_refusal (code_in s) ≡ 0
  pub words : length s / 4 ≡ (code_in s).n + 2
  pub slots : T (every (λ p. slot_fits p (middle_word s p)) (code_in s).n)
  pub kept : T (kept_below (single (code_in s)) (symbols_in s) (marks_in s))
  pub last : word_at s ((code_in s).n + 1) ≡ end_word (code_in s).n

pub good_sheet : (s : List ℕ) → sheet_refusal s ≡ 0 → GoodSheet s
unfolding sheet_refusal body_refusal
good_sheet s e =
    let c : Code = code_in s in
    let b₁ = leb 1 (length s / 4) in
    let b₂ = eqb (kind (word_at s 0)) 1 in
    let f = every (λ p. slot_fits p (middle_word s p)) c.n in
    let k = kept_below (single c) (symbols_in s) (marks_in s) in
    let l = eqb (word_at s (c.n + 1)) (end_word c.n) in
    let t₁ = asked (eqb (length s % 4) 0) 10 (ask (b₁ && b₂) 12 (or_ask (code_refusal c) (body_refusal c s))) e in
    let t₂ = asked (b₁ && b₂) 11 (or_ask (code_refusal c) (body_refusal c s)) t₁.1 in
    let t₃ = or_ask_passed (code_refusal c) (body_refusal c s) t₂.1 in
    let t₄ = asked (eqb (length s / 4) (c.n + 2)) 12 (ask f 14 (ask k 6 (ask l 15 0))) t₃.1 in
    let t₅ = asked f 13 (ask k 6 (ask l 15 0)) t₄.1 in
    let t₆ = asked k 5 (ask l 15 0) t₅.1 in
    let t₇ = asked l 14 0 t₆.1 in
    record {
      whole = eqb→eq (length s % 4) 0 t₁.0;
      first = eqb→eq (kind (word_at s 0)) 1 (and_right b₁ b₂ t₂.0);
      code = t₃.0;
      words = eqb→eq (length s / 4) (c.n + 2) t₄.0;
      slots = t₅.0;
      kept = t₆.0;
      last = eqb→eq (word_at s (c.n + 1)) (end_word c.n) t₇.0;
    }

-- and of one that the reader accepts for buffers of a and b bytes
pub read_good : (s : List ℕ) (a b : ℕ) → read_refusal s a b ≡ 0 → (255 ≤ a) × (255 ≤ b) × GoodSheet s
unfolding read_refusal
read_good s a b e =
    let t = asked (leb 255 a && leb 255 b) 4 (sheet_refusal s) e in
    let l = t.0 in
    (leb→le 255 a (and_left (leb 255 a) (leb 255 b) l), leb→le 255 b (and_right (leb 255 a) (leb 255 b) l), good_sheet s t.1)

kept_at : (f w : ℕ) → ltb (word_symbol w) (q f) ≡ eqb (word_mark w) 1 || ltb (word_symbol w) (q f)
unfolding word_symbol word_mark
kept_at f w = go (eqb (kind w) 3)
  where
    go : (b : Bool) → ltb (cond b 0 (w % 256)) (q f) ≡ eqb (cond b 1 0) 1 || ltb (cond b 0 (w % 256)) (q f)
    go true = lt-ltb 0 (q f) (zero_below f)
    go false = refl

-- a lost symbol is read as 0, so the symbols of all slots may be tested
pub kept_is : (s : List ℕ) → every (λ p. ltb (word_symbol (middle_word s p)) (q (code_in s).field)) (code_in s).n ≡ kept_below (single (code_in s)) (symbols_in s) (marks_in s)
unfolding kept_below symbols_in marks_in lost
kept_is s =
    let c : Code = code_in s in
    every_same (λ p. ltb (word_symbol (middle_word s p)) (q c.field)) (λ p. lost (marks_in s) p || ltb (at (symbols_in s) p) (q c.field)) c.n
    (λ p h.
    kept_at c.field (middle_word s p)
    ∙ sym
    (ap₂ (λ m x. eqb m 1 || ltb x (q c.field)) (at_tabulate (λ p. word_mark (middle_word s p)) 0 c.n p h)
    (at_tabulate (λ p. word_symbol (middle_word s p)) 0 c.n p h)))

-- an accepted code's numbers fit their bits
pub small_code : (c : Code) → code_refusal c ≡ 0 → Narrow c
small_code c e =
    let s = single c in
    let L = plain_of c e in
    let P = L.family.placed in
    (omega (arith, wiring_of c e), omega (arith, P.field_most), omega (arith, r_most s P), omega (arith, n_most s P), omega (arith, k_most s L))

-- what the reader leaves behind
module _ (s a d : List ℕ) (x : Sheet) where
  pub read_done : (b e : List ℕ) → 0 ≡ read_refusal s (length a) (length d) → x.refusal ≡ 0 → x.code ≡ code_in s
      → b ≡ symbols_in s ++ drop (code_in s).n a → e ≡ marks_in s ++ drop (code_in s).n d → ReadSays s a b d e x
  read_done b e z r c w m =
      let n : ℕ = read_refusal s (length a) (length d) in
      record {
        code = c ∙ sym (ap (λ b. cond b (code_in s) no_code) (eq-eqb n 0 (sym z)));
        word = fills_yes n (symbols_in s ++ drop (code_in s).n a) x.refusal a b (sym z) r w;
        marks = fills_yes n (marks_in s ++ drop (code_in s).n d) x.refusal d e (sym z) r m;
      }

-- a stripe that the writer accepts, for a sheet of l bytes
pub record GoodStripe (c : Code) (ws ms : List ℕ) (l : ℕ) : Type 0 where
  pub code : code_refusal c ≡ 0
  pub word : length ws ≡ c.n
  pub marks : length ms ≡ c.n
  pub sheet : l ≡ 4 * (c.n + 2)
  pub marked : T (all_below 2 ms)
  pub kept : T (kept_below (single c) ws ms)

pub good_stripe : (c : Code) (ws ms : List ℕ) (l : ℕ) → write_refusal c ws ms l ≡ 0 → GoodStripe c ws ms l
unfolding write_refusal
good_stripe c ws ms l e =
    let b₁ = eqb (length ws) c.n in
    let b₂ = eqb (length ms) c.n in
    let b₃ = eqb l (4 * (c.n + 2)) in
    let t₁ = or_ask_passed (code_refusal c) (ask (b₁ && (b₂ && b₃)) 5 (ask (all_below 2 ms) 8 (ask (kept_below (single c) ws ms) 6 0))) e in
    let t₂ = asked (b₁ && (b₂ && b₃)) 4 (ask (all_below 2 ms) 8 (ask (kept_below (single c) ws ms) 6 0)) t₁.1 in
    let t₃ = asked (all_below 2 ms) 7 (ask (kept_below (single c) ws ms) 6 0) t₂.1 in
    let t₄ = asked (kept_below (single c) ws ms) 5 0 t₃.1 in
    let r = and_right b₁ (b₂ && b₃) t₂.0 in
    record {
      code = t₁.0;
      word = eqb→eq (length ws) c.n (and_left b₁ (b₂ && b₃) t₂.0);
      marks = eqb→eq (length ms) c.n (and_left b₂ b₃ r);
      sheet = eqb→eq l (4 * (c.n + 2)) (and_right b₂ b₃ r);
      marked = t₃.0;
      kept = t₄.0;
    }

-- the questions are passed where the facts hold
pub sheet_passes : (s : List ℕ) → GoodSheet s → 0 ≡ sheet_refusal s
unfolding sheet_refusal body_refusal
sheet_passes s g =
    let c : Code = code_in s in
    let w = g.words in
    ask_yes 11 (eq-eqb (length s % 4) 0 g.whole)
    (ask_yes 12 (yes_true (leb 1 (length s / 4) && eqb (kind (word_at s 0)) 1) (and_both (leb 1 (length s / 4)) (eqb (kind (word_at s 0)) 1) (le→leb 1 (length s / 4) (omega arith)) (so (eq-eqb (kind (word_at s 0)) 1 g.first))))
    (or_ask_on (code_refusal c) (body_refusal c s) 0 g.code
    (ask_yes 13 (eq-eqb (length s / 4) (c.n + 2) w)
    (ask_yes 14 (yes_true (every (λ p. slot_fits p (middle_word s p)) c.n) g.slots)
    (ask_yes 6 (yes_true (kept_below (single c) (symbols_in s) (marks_in s)) g.kept) (ask_yes 15 (eq-eqb (word_at s (c.n + 1)) (end_word c.n) g.last) refl))))))

pub stripe_passes : (c : Code) (ws ms : List ℕ) (l : ℕ) → GoodStripe c ws ms l → 0 ≡ write_refusal c ws ms l
unfolding write_refusal
stripe_passes c ws ms l g =
    let b₁ = eqb (length ws) c.n in
    let b₂ = eqb (length ms) c.n in
    let b₃ = eqb l (4 * (c.n + 2)) in
    or_ask_on (code_refusal c) _ 0 g.code
    (ask_yes 5 (rw (eq-eqb (length ws) c.n g.word, eq-eqb (length ms) c.n g.marks, eq-eqb l (4 * (c.n + 2)) g.sheet) refl)
    (ask_yes 8 (yes_true (all_below 2 ms) g.marked) (ask_yes 6 (yes_true (kept_below (single c) ws ms) g.kept) refl)))

-- buffers with room leave the questions on the sheet
pub enough : (s : List ℕ) (a b : ℕ) → 255 ≤ a → 255 ≤ b → read_refusal s a b ≡ sheet_refusal s
unfolding read_refusal ask
enough s a b h g = rw (le-leb 255 a h, le-leb 255 b g) refl
