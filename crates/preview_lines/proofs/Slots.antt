-- The lines of the kept slots and the safe slots, one slot more each time. Assumes nothing.
--   PutTo s ms p l q o e       == the lines of the first p slots were put to a page, those that are safe to a page of their own
--   put_as, put_none, put_lost, put_kept, put_all    the same; no slot; a lost one more; a kept one more; all of them
--   slots_most, safe_size, slots_lines    how far the lines and the safe slots reach; they are the lines of the preview
--   small_preview              the numbers of a preview have at most three digits
use mathlib.Core.Path.{◌≡◌, refl, sym, ap, ◌∙◌, subst}
use mathlib.Core.Logic.{◌≢◌}
use mathlib.Core.Bool.{Bool, true, false, cond, not}
use mathlib.Core.List.{List, [], ◌++◌}
use Prim.Native.Nat.{ℕ, ◌+◌, ◌*◌, ◌≤◌, ◌<◌}
use native.Mathlib.Numerals.{add-one}
use native.Mathlib.Omega.{arith}
use lib.Dec.{eqb}
use lib.ListN.{length, take}
use borrow.Author.Tests.{eq-eqb, ne_eqb}
use Rattle.algebra.specs.Sequence.{at}
use Rattle.code.specs.declared.Shape.{Shape}
use Rattle.code.specs.Decoding.{lost, undecided}
use Rattle.code.specs.Laws.{Placed, Family}
use Rattle.code.proofs.Bounds.{n_most}
use Rattle.code.proofs.Graded.{four_is, grade_most, first_most}
use Rattle.previewing.specs.Preview.{Previewed, marked, preview_of}
use Rattle.text.specs.Text.{ascii, spaced, Puts}
use Rattle.text.specs.Page.{Wrote}
use Rattle.text.specs.declared.Page.{Page}
use Rattle.text.proofs.Puts.{wrote_then, wrote_as, wrote_none, wrote_front, front_end, front_bytes}
use Rattle.preview_lines.specs.Lines.{joined, slot_line, kept_line, safe, safe_slot, preview_lines}
use Rattle.preview_lines.specs.Step.{SlotsPut}

one_more : {bs : List ℕ} {a b c : Page} (f : ℕ → List ℕ) (p : ℕ) → bs ≡ f p → Wrote (joined f p) a b → Wrote bs b c → a.end ≤ length a.text.now
    → Wrote (joined f (p + 1)) a c
unfolding joined
one_more f p e P Q h = wrote_as (ap (λ l. joined f p ++ l) e ∙ sym (ap (joined f) (add-one p))) (wrote_then P Q h)

module _ (s : Shape) (ms : List ℕ) (p : ℕ) where
  line_lost : at ms p ≡ 1 → [] ≡ kept_line s ms p
  unfolding kept_line lost
  line_lost e = rw (eq-eqb (at ms p) 1 e) refl

  safe_lost : at ms p ≡ 1 → [] ≡ safe_slot s ms p
  unfolding safe_slot safe lost
  safe_lost e = rw (eq-eqb (at ms p) 1 e) refl

  -- x: the preview of the slot
  module _ (x : Previewed) (n : at ms p ≢ 1) (e : x ≡ preview_of s p ms) where
    line_kept : slot_line p x.grade x.first ≡ kept_line s ms p
    unfolding kept_line lost preview_of
    line_kept = rw (ne_eqb (at ms p) 1 n) (ap (λ x. slot_line p x.grade x.first) e)

    safe_kept : Family s → cond (eqb x.grade 4) [] (spaced p) ≡ safe_slot s ms p
    unfolding safe_slot safe lost preview_of
    safe_kept F =
        rw (ne_eqb (at ms p) 1 n)
        (ap (λ x. cond (eqb x.grade 4) [] (spaced p)) e
        ∙ ap (λ b. cond b [] (spaced p)) (four_is s (marked ms p) F)
        ∙ turned (undecided s (marked ms p)))
      where
        turned : (b : Bool) → cond b [] (spaced p) ≡ cond (not b) (spaced p) []
        turned true = refl
        turned false = refl

-- l and o are the pages before, q and e after
pub record PutTo (s : Shape) (ms : List ℕ) (p : ℕ) (l q o e : Page) : Type 0 where
  pub lines : Wrote (joined (kept_line s ms) p) l q
  pub lines_most : q.end ≤ l.end + 29 * p
  pub safe : Wrote (joined (safe_slot s ms) p) o e
  pub safe_most : e.end ≤ o.end + 4 * p

pub put_as : {s : Shape} {ms : List ℕ} {p : ℕ} {l q o e u v : Page} → u ≡ q → v ≡ e → PutTo s ms p l q o e → PutTo s ms p l u o v
put_as i j P = rw (i, j) P

pub put_none : (s : Shape) (ms : List ℕ) (l o : Page) → PutTo s ms 0 l l o o
unfolding joined
put_none s ms l o = record { lines = wrote_none l; lines_most = omega arith; safe = wrote_none o; safe_most = omega arith }

module _ {s : Shape} {ms : List ℕ} {p : ℕ} {l q o e : Page} (P : PutTo s ms p l q o e) (h : l.end ≤ length l.text.now) (i : o.end ≤ length o.text.now) where
  pub put_lost : at ms p ≡ 1 → PutTo s ms (p + 1) l q o e
  put_lost n =
      record {
        lines = one_more (kept_line s ms) p (line_lost s ms p n) P.lines (wrote_none q) h;
        lines_most = omega arith;
        safe = one_more (safe_slot s ms) p (safe_lost s ms p n) P.safe (wrote_none e) i;
        safe_most = omega arith;
      }

  pub put_kept : {w v : Page} → Family s → (x : Previewed) → at ms p ≢ 1 → x ≡ preview_of s p ms
      → Wrote (slot_line p x.grade x.first) q w × (w.end ≤ q.end + 29) → Wrote (cond (eqb x.grade 4) [] (spaced p)) e v × (v.end ≤ e.end + 4)
      → PutTo s ms (p + 1) l w o v
  put_kept F x n d L S =
      record {
        lines = one_more (kept_line s ms) p (line_kept s ms p x n d) P.lines L.0 h;
        lines_most = omega (arith, L.1, P.lines_most);
        safe = one_more (safe_slot s ms) p (safe_kept s ms p x n d F) P.safe S.0 i;
        safe_most = omega (arith, S.1, P.safe_most);
      }

  pub put_all : p ≡ s.n → SlotsPut s ms l q o e
  put_all n =
      let Q = subst (λ p. PutTo s ms p l q o e) n P in
      record { lines = Q.lines; lines_most = Q.lines_most; safe = Q.safe; safe_most = Q.safe_most }

-- o: an empty page; e: the page of the safe slots
module _ {s : Shape} {ms : List ℕ} {p q o e : Page} (S : SlotsPut s ms p q o e) (z : o.end ≡ 0) where
  pub slots_most : Placed s → (q.end ≤ p.end + 7395) × (e.end ≤ 1020)
  slots_most P = (omega (arith, n_most s P, S.lines_most), omega (arith, n_most s P, S.safe_most))

  safe_puts : Puts (joined (safe_slot s ms) s.n) o.text.now 0 e.text.now e.end
  safe_puts = wrote_front z S.safe

  pub safe_size : length (take e.end e.text.now) ≡ e.end
  safe_size = ap length (front_bytes safe_puts) ∙ sym (front_end safe_puts)

  pub slots_lines : {u v w : Page} → Wrote (ascii "safe") q u → Wrote (take e.end e.text.now) u v → Wrote (ascii "\n") v w
      → p.end ≤ length p.text.now → Wrote (preview_lines s ms) p w
  unfolding preview_lines
  slots_lines a b c h = wrote_then (wrote_then (wrote_then S.lines a h) (wrote_as (front_bytes safe_puts) b) h) c h

pub small_preview : (s : Shape) (ms : List ℕ) (p : ℕ) (x : Previewed) → Placed s → x ≡ preview_of s p ms → (x.grade < 1000) × (x.first < 1000)
unfolding preview_of
small_preview s ms p x P e =
    (omega (arith, ap (λ x. x.grade) e, grade_most s (marked ms p)), omega (arith, ap (λ x. x.first) e, first_most s P (marked ms p)))
