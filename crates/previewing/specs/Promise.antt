-- What is promised of the preview beside the calls on marks, by their contracts. Each statement is a type; proofs/Promises.antt proves them all.
-- Assumes nothing: these are statements.
--   PreviewIs      it is what losses, grade and first_broken answer of the marks with the slot lost too
--   LostAgain      of a slot that is lost already: what they answer of the marks as they are
--   OneMore        of a kept slot: one loss more, a grade that is no better and a first group that is no later
--   Promises        all of them
use Rattle.std.specs.Prelude.{◌≡◌, true, false, List, ℕ, ◌+◌, ◌≤◌, length}
use Rattle.code.specs.declared.Answer.{Answer}
use Rattle.code.specs.declared.Shape.{Shape}
use Rattle.code.specs.Decoding.{lost}
use Rattle.code.specs.Laws.{Family}
use Rattle.code.specs.Work.{used}
use Rattle.erasures.specs.Marks.{LossesSays, FirstSays}
use Rattle.grading.specs.Grade.{GradeSays}
use Rattle.previewing.specs.Preview.{Previewed}
use Rattle.previewing.specs.Preview.{marked, preview_refusal, PreviewSays}

-- l, g and f are what losses, grade and first_broken answer of the marks ms
pub record Told (n : ℕ) (s : Shape) (ms : List ℕ) (l g f : Answer) : Type 0 where
  pub work : List ℕ
  pub work_now : List ℕ
  pub work_size : used s ≤ length work
  pub losses : LossesSays n s ms l
  pub grade : GradeSays n s ms g work work_now
  pub first : FirstSays n s ms f

pub record Same (x : Previewed) (l g f : Answer) : Type 0 where
  pub lost : x.lost ≡ l.value
  pub grade : x.grade ≡ g.value
  pub first : x.first ≡ f.value

pub record Worse (x : Previewed) (l g f : Answer) : Type 0 where
  pub lost : x.lost ≡ l.value + 1
  pub grade : g.value ≤ x.grade
  pub first : x.first ≤ f.value

unfoldable pub PreviewIs : Type 0
PreviewIs =
    (n : ℕ) (s : Shape) (p : ℕ) (ms : List ℕ) (x : Previewed) (w v : List ℕ) (l g f : Answer) → preview_refusal n s p ms (length w) ≡ 0
    → PreviewSays n s p ms x w v → Told n s (marked ms p) l g f → Same x l g f

unfoldable pub LostAgain : Type 0
LostAgain =
    (n : ℕ) (s : Shape) (p : ℕ) (ms : List ℕ) (x : Previewed) (w v : List ℕ) (l g f : Answer) → preview_refusal n s p ms (length w) ≡ 0
    → PreviewSays n s p ms x w v → lost ms p ≡ true → Told n s ms l g f → Same x l g f

unfoldable pub OneMore : Type 0
OneMore =
    (n : ℕ) (s : Shape) (p : ℕ) (ms : List ℕ) (x : Previewed) (w v : List ℕ) (l g f : Answer) → Family s
    → preview_refusal n s p ms (length w) ≡ 0 → PreviewSays n s p ms x w v → lost ms p ≡ false → Told n s ms l g f → Worse x l g f

pub record Promises : Type 0 where
  pub preview_is : PreviewIs
  pub lost_again : LostAgain
  pub one_more : OneMore
