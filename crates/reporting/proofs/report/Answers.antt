use mathlib.Core.Path.{refl}
use native.Mathlib.Omega.{arith}
use Rattle.std.proofs.Common.{rules}
use Rattle.code.specs.Question.{ask}
use Rattle.code.specs.declared.Answer.{Answer}
use Rattle.refusal.proofs.Refusals.{is_refusal}
use Rattle.std.proofs.lemmas.Bool.Decides.{nat_tests}
use Rattle.reporting.specs.Report.{short}
use Rattle.reporting.proofs.Reporting.{says_page}
use Rattle.reporting.proofs.report.Goals as goal

pub put_report-requires : goal.put_report-requires
unfolding ask
put_report-requires c =
    let p = c.new-page.ensures.empty in
    (omega arith, omega arith, omega arith, omega arith, p.1, rw p.0 (grind (arith, nat_tests)))

pub returns-in_err-require : goal.returns-in_err-require
unfolding ask
returns-in_err-require c = short (grind (arith, nat_tests, is_refusal)) (grind (arith, nat_tests, is_refusal)) (search rules) refl

pub returns : goal.returns
unfolding ask
returns c =
    let a = c.args in
    let r = c.put_report in
    let p = r.new.page in
    let x : Answer = record { refusal = 0; value = p.end } in
    says_page a.input.now _ _ c.new-page.result p x (search rules) c.new-page.ensures.empty.0 (grind (arith, nat_tests)) refl refl r.ensures.says
