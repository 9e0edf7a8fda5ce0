-- What the local pass leaves. Assumes nothing.
--   mended_copy       the pass on a copy leaves what just the same messages fit
--   copied_verdict    a verdict on that is one on the word
use mathlib.Core.Path.{◌≡◌, refl, sym, ap, ◌∙◌}
use mathlib.Core.Bool.{Bool, true, false, cond, ◌||◌}
use mathlib.Core.List.{List}
use Prim.Native.Nat.{ℕ, ◌<◌}
use lib.Dec.{T, eqb, ltb, lt→ltb}
use lib.ListN.{length}
use Rattle.algebra.specs.Sequence.{at}
use Rattle.algebra.proofs.Booleans.{so, yes_true, or_right}
use Rattle.algebra.proofs.Tabulate.{length_tabulate}
use Rattle.algebra.proofs.Every.{every_at, every_intro}
use Rattle.field.specs.Field.{q}
use Rattle.field.proofs.Products.{dotted_below}
use Rattle.code.specs.declared.Shape.{Shape}
use Rattle.code.specs.Shape.{group}
use Rattle.code.specs.Decoding.{lost}
use Rattle.code.specs.Erasure.{kept_below}
use Rattle.code.specs.Laws.{Family}
use Rattle.code.specs.Repair.{weights_over, restored, symbols_of}
use Rattle.code.specs.Pass.{sources, mends, mend, passed, marks_after, mended}
use Rattle.code.specs.Promise.{BeforeAndAfter}
use Rattle.code.specs.Verdict.{Verdict}
use Rattle.code.proofs.Verdicts.{verdict_same}
use Rattle.code.proofs.Keeping.{before_and_after}
use Rattle.code.proofs.Passing.{passed_at, mark_at, at_passed, at_marks}
use Rattle.code.specs.Step.{Received}
use Rattle.copy_mending.specs.Step.{MendedCopy}
use Rattle.copy_mending.proofs.Copying.{KeptSame, fits_loaded, received_loaded, mended_loaded}

module _ (s : Shape) (ws ms : List ℕ) where
  mend_below : (p : ℕ) → mend s ws ms p < q s.field
  unfolding mend restored
  mend_below p = let os = sources s ms (group s p) in dotted_below s.field (weights_over s os os p) (symbols_of ws os)

  kept_after : kept_below s ws ms ≡ true → kept_below s (passed s ws ms) (marks_after s ws ms) ≡ true
  unfolding kept_below lost
  kept_after k =
      yes_true (kept_below s (passed s ws ms) (marks_after s ws ms))
      (every_intro (λ p. lost (marks_after s ws ms) p || ltb (at (passed s ws ms) p) (q s.field)) s.n (λ p h. go p h (mends s ws ms p) refl))
    where
      go : (p : ℕ) → p < s.n → (b : Bool) → mends s ws ms p ≡ b → T (eqb (at (marks_after s ws ms) p) 1 || ltb (at (passed s ws ms) p) (q s.field))
      go p h true t =
          let w = at_passed s ws ms p h ∙ ap (λ b. cond b (mend s ws ms p) (at ws p)) t in
          or_right (eqb (at (marks_after s ws ms) p) 1) (ltb (at (passed s ws ms) p) (q s.field))
          (lt→ltb (at (passed s ws ms) p) (q s.field) (rw w (mend_below p)))
      go p h false t =
          let w = at_passed s ws ms p h ∙ ap (λ b. cond b (mend s ws ms p) (at ws p)) t in
          let m = at_marks s ws ms p h ∙ ap (λ b. cond b 0 (at ms p)) t in
          rw (w, m) (every_at (λ p. lost ms p || ltb (at ws p) (q s.field)) s.n (so k) p h)

  received_after : Received s ws ms → Received s (passed s ws ms) (marks_after s ws ms)
  unfolding passed marks_after
  received_after R =
      record { word = length_tabulate (passed_at s ws ms) s.n; marks = length_tabulate (mark_at s ws ms) s.n; kept = kept_after R.kept }

-- ws and ms are the word and its marks, us the copy before the pass, vs and ns the copies after it
pub mended_copy : (s : Shape) (ws ms us vs ns : List ℕ) (x : ℕ) → Family s → Received s ws ms → KeptSame s.n ws us ms → length us ≡ s.n
    → vs ≡ passed s us ms → ns ≡ marks_after s us ms → x ≡ mended s us ms → MendedCopy s ws ms vs ns x
unfolding BeforeAndAfter
mended_copy s ws ms us vs ns x F R e l v n y =
    record {
      received = rw (v, n) (received_after s us ms (received_loaded s ws us ms e l R));
      same = λ xs. rw (v, n) (fits_loaded s ws us ms e xs ∙ before_and_after s us ms xs F l);
      number = y ∙ mended_loaded s ws us ms e F.placed R.word l;
    }

pub copied_verdict : (s : Shape) (ws ms vs ns : List ℕ) (x : ℕ) → MendedCopy s ws ms vs ns x → (a z : List ℕ) (y : ℕ) → Verdict s vs ns a z y
    → Verdict s ws ms a z y
copied_verdict s ws ms vs ns x M a z y = verdict_same s ws ms vs ns a z y (λ xs f. sym (M.same xs) ∙ f) (λ xs f. M.same xs ∙ f)
