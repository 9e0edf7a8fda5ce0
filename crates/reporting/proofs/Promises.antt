-- All statements of specs/Promise.antt are proved. Assumes nothing.
--   one_report    two reports of one sheet are equal
--   promises      each of them
use mathlib.Core.Path.{◌≡◌, refl, sym, ap, ◌∙◌}
use mathlib.Core.List.{List, ◌++◌}
use Prim.Native.Nat.{ℕ}
use Rattle.code.specs.Codeword.{guarantee}
use Rattle.code.specs.Erasure.{lost_number, grade, first_broken}
use Rattle.code.specs.Family.{single}
use Rattle.code.specs.declared.Code.{Code}
use Rattle.code.specs.declared.Shape.{Shape}
use Rattle.code.specs.Verdict.{Verdict, one, none, more}
use Rattle.sheet.specs.Sheet.{code_in, marks_in}
use Rattle.text.specs.Text.{code_line, losses_line, message_line, outcome_line, stripe_lines}
use Rattle.reporting.specs.Report.{stripe_report, refused, stripe}
use Rattle.reporting.specs.Promise.{OneReport, Promises}

one_outcome : {s : Shape} {ws ms us vs xs ys : List ℕ} {v w : ℕ} → Verdict s ws ms us xs v → Verdict s ws ms vs ys w → outcome_line v xs ≡ outcome_line w ys
unfolding outcome_line
one_outcome {xs = xs} (one f o) (one g p) = ap message_line (p xs f)
one_outcome {xs = xs} (one f o) (none n e) = absurd (n xs f)
one_outcome (one f o) (more y z g h d e) = absurd (d (o y g ∙ sym (o z h)))
one_outcome {ys = ys} (none n e) (one g p) = absurd (n ys g)
one_outcome (none n e) (none m i) = refl
one_outcome (none n i) (more y z g h d e) = absurd (n y g)
one_outcome (more y z g h d e) (one f o) = absurd (d (o y g ∙ sym (o z h)))
one_outcome (more y z g h d e) (none n i) = absurd (n y g)
one_outcome (more y z g h d e) (more u v i j k l) = refl

one_report : OneReport
unfolding OneReport stripe_report stripe_lines
one_report s a b (refused h) (refused g) = refl
one_report s a b (refused h) (stripe e o) = absurd (h e)
one_report s a b (stripe e o) (refused h) = absurd (h e)
one_report s a b (stripe e o) (stripe g p) =
    let c : Code = code_in s in
    let h : Shape = single (code_in s) in
    ap (λ l. code_line c ++ losses_line (lost_number h (marks_in s)) (guarantee h) (grade h (marks_in s)) (first_broken h (marks_in s)) ++ l) (one_outcome o p)

pub promises : Promises
promises = record { one_report = one_report }
