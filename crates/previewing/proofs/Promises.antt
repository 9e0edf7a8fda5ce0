-- All statements of specs/Promise.antt are proved. Assumes nothing.
--   promises    each of them
use mathlib.Core.Path.{◌≡◌, refl, sym, ap, ◌∙◌}
use mathlib.Core.List.{List}
use Prim.Native.Nat.{ℕ, ◌+◌}
use native.Mathlib.Omega.{arith}
use borrow.Author.Tests.{eq-eqb, le-leb}
use lib.Dec.{T}
use lib.ListN.{length}
use Rattle.algebra.specs.Sequence.{all_below}
use Rattle.algebra.proofs.Booleans.{yes_true}
use Rattle.code.specs.declared.Shape.{Shape}
use Rattle.code.specs.declared.Answer.{Answer}
use Rattle.code.specs.Erasure.{lost_number, first_broken, grade}
use Rattle.code.specs.Question.{ask, or_ask}
use Rattle.code.specs.Work.{used}
use Rattle.code.proofs.Answers.{answers_in}
use Rattle.erasures.specs.Marks.{marks_refusal, LossesSays, FirstSays}
use Rattle.grading.specs.Grade.{grade_refusal}
use Rattle.grading.proofs.Replies.{answered as graded}
use Rattle.previewing.specs.Preview.{Previewed}
use Rattle.previewing.specs.Preview.{marked, preview_of}
use Rattle.previewing.specs.Promise.{Told, Same, PreviewIs, LostAgain, OneMore, Promises}
use Rattle.previewing.proofs.Marking.{again, still_lost, size_marked, marks_marked}
use Rattle.previewing.proofs.Losing.{more_lost, grade_no_better, first_no_later}
use Rattle.previewing.proofs.Replies.{passed, answered}

-- what losses, grade and first_broken answer of marks that none of them refuses
module _ (n : ℕ) (s : Shape) (ms : List ℕ) (l g f : Answer) (z : n ≡ 0) (e : length ms ≡ s.n) (h : T (all_below 2 ms)) (t : Told n s ms l g f) where
  marks_pass : marks_refusal n s ms ≡ 0
  unfolding marks_refusal or_ask ask
  marks_pass = rw (z, eq-eqb (length ms) s.n e, yes_true (all_below 2 ms) h) refl

  grade_passes : grade_refusal n s ms (length t.work) ≡ 0
  unfolding grade_refusal or_ask ask
  grade_passes = rw (z, eq-eqb (length ms) s.n e, le-leb (used s) (length t.work) t.work_size, yes_true (all_below 2 ms) h) refl

  lost_told : l.value ≡ lost_number s ms
  unfolding LossesSays
  lost_told = (answers_in (marks_refusal n s ms) (lost_number s ms) l marks_pass t.losses).1

  first_told : f.value ≡ first_broken s ms
  unfolding FirstSays
  first_told = (answers_in (marks_refusal n s ms) (first_broken s ms) f marks_pass t.first).1

  grade_told : g.value ≡ grade s ms
  grade_told = (graded n s ms t.work t.work_now grade_passes g t.grade).1

  same : (x : Previewed) (p : ℕ) (os : List ℕ) → x ≡ preview_of s p os → marked os p ≡ ms → Same x l g f
  unfolding preview_of
  same x p os i m =
      record {
        lost = ap (λ y. y.lost) i ∙ ap (lost_number s) m ∙ sym lost_told;
        grade = ap (λ y. y.grade) i ∙ ap (grade s) m ∙ sym grade_told;
        first = ap (λ y. y.first) i ∙ ap (first_broken s) m ∙ sym first_told;
      }

preview_is : PreviewIs
unfolding PreviewIs
preview_is n s p ms x w v l g f e t u =
    let a = passed n s p ms (length w) e in
    same n s (marked ms p) l g f a.numbers (size_marked ms p ∙ a.marks_size) (marks_marked ms p a.marks) u x p ms (answered n s p ms w x v e t).0 refl

lost_again : LostAgain
unfolding LostAgain
lost_again n s p ms x w v l g f e t h u =
    let a = passed n s p ms (length w) e in
    same n s ms l g f a.numbers a.marks_size a.marks u x p ms (answered n s p ms w x v e t).0 (again ms p h)

one_more : OneMore
unfolding OneMore preview_of
one_more n s p ms x w v l g f F e t h u =
    let a = passed n s p ms (length w) e in
    let i = (answered n s p ms w x v e t).0 in
    let L = lost_told n s ms l g f a.numbers a.marks_size a.marks u in
    let G = grade_told n s ms l g f a.numbers a.marks_size a.marks u in
    let E = first_told n s ms l g f a.numbers a.marks_size a.marks u in
    record {
      lost = ap (λ y. y.lost) i ∙ more_lost s ms p a.slot a.marks_size h ∙ ap (λ y. y + 1) (sym L);
      grade = omega (arith, G, ap (λ y. y.grade) i, grade_no_better s ms (marked ms p) (still_lost ms p) F);
      first = omega (arith, E, ap (λ y. y.first) i, first_no_later s ms (marked ms p) (still_lost ms p) F);
    }

pub promises : Promises
promises = record { preview_is = preview_is; lost_again = lost_again; one_more = one_more }
