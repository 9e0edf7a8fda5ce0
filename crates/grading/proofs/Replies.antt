-- What grade says. Assumes nothing.
--   refused, answers_grade    on a refusal, and where none is
--   answered                  what it says where none is
use mathlib.Core.Path.{◌≡◌, refl, ap}
use mathlib.Core.Logic.{◌≢◌}
use mathlib.Core.List.{List}
use Prim.Native.Nat.{ℕ, zero, suc}
use lib.ListN.{length}
use Rattle.code.specs.declared.Shape.{Shape}
use Rattle.code.specs.declared.Answer.{Answer}
use Rattle.code.specs.Erasure.{grade}
use Rattle.code.specs.Work.{cleared}
use Rattle.code.proofs.Answers.{answers_no, answers_yes, answers_in}
use Rattle.grading.specs.declared.Graded.{Graded}
use Rattle.grading.specs.Grade.{grade_refusal, GradeAs, GradeSays}
use Rattle.grading.specs.Step.{graded}

module _ (n : ℕ) (s : Shape) (ms w : List ℕ) where
  pub refused : (x : ℕ) → x ≡ grade_refusal n s ms (length w) → x ≢ 0 → GradeSays n s ms (record { refusal = x; value = 0 }) w w
  unfolding GradeSays GradeAs
  refused x e h = go (grade_refusal n s ms (length w)) e
    where
      go : (m : ℕ) → x ≡ m → GradeAs m s ms (record { refusal = x; value = 0 }) w w
      go zero p = absurd (h p)
      go (suc m) p = (answers_no (suc m) (grade s ms) (record { refusal = x; value = 0 }) p h refl, refl)

  module _ (v : List ℕ) (e : grade_refusal n s ms (length w) ≡ 0) where
    pub answers_grade : (x : Graded) → x ≡ graded s ms → v ≡ cleared s w → GradeSays n s ms (record { refusal = 0; value = x.grade }) w v
    unfolding GradeSays GradeAs graded
    answers_grade x g c = rw e (answers_yes 0 (grade s ms) (record { refusal = 0; value = x.grade }) refl refl (ap (λ y. y.grade) g), c)

    pub answered : (x : Answer) → GradeSays n s ms x w v → (x.refusal ≡ 0) × (x.value ≡ grade s ms) × (v ≡ cleared s w)
    unfolding GradeSays GradeAs
    answered x t = let r = rw e at t in let a = answers_in 0 (grade s ms) x refl r.0 in (a.0, a.1, r.1)
