-- All statements of specs/Promise.antt are proved. Assumes nothing.
--   promises      each of them
use mathlib.Core.Path.{◌≡◌, refl, sym, ap, ◌∙◌}
use mathlib.Core.Logic.{◌≢◌}
use mathlib.Core.Bool.{Bool, true, false, not, ◌&&◌}
use Prim.Native.Nat.{ℕ, ◌≤◌}
use native.Mathlib.Decide.{ℕ_discrete}
use native.Mathlib.Omega.{arith}
use lib.Dec.{eqb, ltb, eqb→eq}
use borrow.Author.Tests.{eq-eqb, ne_eqb, lt-ltb, le-ltb}
use Rattle.algebra.proofs.Booleans.{so, differ}
use Rattle.code.specs.Decoding.{lost, undecided}
use Rattle.code.specs.Erasure.{grade}
use Rattle.code.specs.Promise.{GradeTells}
use Rattle.code.proofs.Graded.{four_is, grade_tells, grade_most}
use Rattle.previewing.specs.Preview.{marked}
use Rattle.preview_lines.specs.Lines.{safe}
use Rattle.preview_lines.specs.Promise.{SafeTells, SafeGrades, Promises}

-- below 4 is not 4
below_four : (g : ℕ) → g ≤ 4 → not (eqb g 4) ≡ ltb g 4
below_four g h = go (ℕ_discrete g 4)
  where
    go : Dec (g ≡ 4) → not (eqb g 4) ≡ ltb g 4
    go (yes e) = rw (eq-eqb g 4 e, le-ltb g 4 (omega arith)) refl
    go (no n) = rw (ne_eqb g 4 n, lt-ltb g 4 (omega arith)) refl

safe_grades : SafeGrades
unfolding SafeGrades safe
safe_grades s ms p F =
    ap (λ b. not (lost ms p) && b) (ap not (sym (four_is s (marked ms p) F)) ∙ below_four (grade s (marked ms p)) (grade_most s (marked ms p)))

-- of a slot that is lost by a, and after whose loss the kept slots leave the message undecided by b, with the grade g
settled : (g : ℕ) (a b : Bool) → eqb g 4 ≡ b → not a && not b ≡ true → g ≢ 4
settled g true b e t i = differ (sym t)
settled g false true e t i = differ (sym t)
settled g false false e t i = differ (sym (eq-eqb g 4 i) ∙ e)

unsettled : (g : ℕ) (a b : Bool) → eqb g 4 ≡ b → a ≡ false → not a && not b ≡ false → g ≡ 4
unsettled g true b e l t = differ l
unsettled g false true e l t = eqb→eq g 4 (so e)
unsettled g false false e l t = differ t

safe_tells : SafeTells
unfolding SafeTells GradeTells safe
safe_tells s ms p F =
    let g = grade s (marked ms p) in
    let u = undecided s (marked ms p) in
    let e = four_is s (marked ms p) F in
    record {
      one = λ t ws. (grade_tells s ws (marked ms p) F).one (settled g (lost ms p) u e t);
      more = λ l t ws. (grade_tells s ws (marked ms p) F).more (unsettled g (lost ms p) u e l t);
    }

pub promises : Promises
promises = record { safe_tells = safe_tells; safe_grades = safe_grades }
