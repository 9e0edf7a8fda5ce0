-- All statements of specs/Promise.antt are proved. Assumes nothing.
--   promises    each of them
use mathlib.Core.Path.{◌≡◌, sym, ap, ◌∙◌}
use mathlib.Core.Logic.{◌≢◌}
use mathlib.Core.Bool.{true}
use mathlib.Core.List.{List}
use Prim.Native.Nat.{ℕ, zero, suc}
use native.Mathlib.Decide.{ℕ_discrete}
use native.Mathlib.Omega.{arith}
use lib.ListN.{length}
use Rattle.code.specs.declared.Shape.{Shape}
use Rattle.code.specs.Decoding.{agrees, fits}
use Rattle.code.specs.Erasure.{grade}
use Rattle.code.specs.Laws.{Family}
use Rattle.code.specs.Promise.{GradeTells}
use Rattle.code.specs.Verdict.{Verdict}
use Rattle.code.proofs.Decoding.{fits_intro}
use Rattle.code.proofs.Verdicts.{more_only, found, two_of_more}
use Rattle.code.proofs.Graded.{grade_tells, grade_most}
use Rattle.grading.proofs.Replies.{answered}
use Rattle.decode.specs.Decode.{decode_refusal}
use Rattle.decode.proofs.Replies.{settled}
use Rattle.recording.specs.Recording.{outcome_number, Filled, RecordAs, RecordSays}
use Rattle.recording.specs.Promise.{GradeDecides, RecordGrades, Promises}

-- 10 comes with grade 4 alone
ten : (s : Shape) → Family s → (ws ms a z : List ℕ) (x : ℕ) → Verdict s ws ms a z x → x ≡ 10 → grade s ms ≡ 4
unfolding GradeTells
ten s F ws ms a z x Q e = go (ℕ_discrete (grade s ms) 4)
  where
    go : Dec (grade s ms ≡ 4) → grade s ms ≡ 4
    go (yes g) = g
    go (no g) = let W = two_of_more s ws ms a z x Q e in absurd (W.differ ((grade_tells s ws ms F).one g W.one W.other W.one_fits W.other_fits))

-- grade 4 and a message that fits come with 10
four_ten : (s : Shape) → Family s → (ws ms a z : List ℕ) (x : ℕ) → Verdict s ws ms a z x → grade s ms ≡ 4 → (xs : List ℕ) → fits s ws ms xs ≡ true → x ≡ 10
unfolding GradeTells
four_ten s F ws ms a z x Q g xs f =
    let t = (grade_tells s ws ms F).more g xs f in
    (more_only s ws ms a z t.0 xs x Q t.1 f t.2).0

grade_decides : GradeDecides
unfolding GradeDecides
grade_decides n s ws ms y x a z w v o u F p r G D =
    let Q = (settled n s ws ms a z w v r x D).0 in
    let g = (answered n s ms o u p y G).1 in
    record {
      most = omega (arith, g, grade_most s ms);
      four = λ e cs C h.
          four_ten s F ws ms a z x Q (sym g ∙ e) C.message
          (fits_intro s ws ms C.message C.good (ap (λ l. agrees s l ws ms) (sym C.is) ∙ h));
      others = λ e t. e (g ∙ ten s F ws ms a z x Q t);
    }

record_grades : RecordGrades
unfolding RecordGrades RecordSays RecordAs
record_grades n c s ws ms x a z w v F r R = go (decode_refusal n s ws ms (length a) (length w)) r R
  where
    go : (m : ℕ) → m ≡ 0 → RecordAs m c s ws ms x a z w v
        → (outcome_number x.record.outcome ≡ 10 → x.record.grade ≡ 4) × (outcome_number x.record.outcome ≡ 0 → x.record.grade ≢ 4)
    go (suc m) e R = absurd (omega arith)
    go zero e R = filled R
      where
        filled : Filled c s ws ms x a z w v
            → (outcome_number x.record.outcome ≡ 10 → x.record.grade ≡ 4) × (outcome_number x.record.outcome ≡ 0 → x.record.grade ≢ 4)
        filled R = (
          λ t. R.numbers.grade_is ∙ ten s F ws ms a z (outcome_number x.record.outcome) R.verdict t,
          λ t h.
              absurd (omega (
                arith,
                t,
                four_ten s F ws ms a z (outcome_number x.record.outcome) R.verdict (sym R.numbers.grade_is ∙ h) z
                    (found s ws ms a z (outcome_number x.record.outcome) t R.verdict),
              )),
        )

pub promises : Promises
promises = record { grade_decides = grade_decides; record_grades = record_grades }
