use mathlib.Core.Path.{◌≡◌, subst, ap}
use mathlib.Core.Logic.{◌≢◌}
use native.Mathlib.Omega.{arith}
use borrow.Author.Rules.{rules}
use Rattle.code.specs.Verdict.{Verdict}
use Rattle.code.proofs.Decoding.{fits_message}
use Rattle.shortening.specs.Mother.{mother}
use Rattle.shortening.proofs.Mother.{mother_whole, mother_guarantee}
use Rattle.code.proofs.Verdicts.{found}
use Rattle.refusal.specs.Refusal.{number_of}
use Rattle.refusal.proofs.Refusals.{is_refusal}
use Rattle.short_fitting.proofs.Verdicts.{zeros_fit, verdict_none, verdict_one}
use Rattle.short_fitting.proofs.solve_long.Goals as goal
use Rattle.short_fitting.proofs.solve_long.Goals.{After-solve_within}

pub solve_within-requires : goal.solve_within-requires
solve_within-requires c =
    let h = c.args.shape in
    let e = c.mother_of-mother.ensures in
    rw e (mother_whole h c.requires.0.plain, c.requires.0.one, c.requires.2, c.requires.4, omega (arith, c.requires.6, mother_guarantee h c.requires.0.plain))

-- the verdict on the word of whole groups
long : (c : After-solve_within) → let a = c.args in let w = c.solve_within in
    Verdict (mother a.shape) a.word.now a.marks.now a.row.now w.new.message (number_of w.result)
long c =
    let a = c.args in
    let w = c.solve_within in
    subst (λ h. Verdict h a.word.now a.marks.now a.row.now w.new.message (number_of w.result)) c.mother_of-mother.ensures w.ensures

pub returns-in_err-solve_within : goal.returns-in_err-solve_within
returns-in_err-solve_within c =
    let a = c.args in
    let w = c.solve_within in
    let same : number_of c.from_residual.result ≡ number_of w.result = search rules in
    let refused : number_of w.result ≢ 0 = grind (arith, is_refusal) in
    rw same (verdict_none a.shape c.requires.0.plain c.requires.1 a.word.now a.marks.now c.requires.3 a.row.now w.new.message a.message.now (number_of w.result) c.requires.6 refused
    (long (goal.at.returns-in_err-solve_within c).After-solve_within))

pub shorten-requires : goal.shorten-requires
shorten-requires c =
    let a = c.args in
    let w = c.solve_within in
    let f = found (mother a.shape) a.word.now a.marks.now a.row.now w.new.message (number_of w.result) (ap number_of c.in_ok-solve_within.was)
    (long (goal.at.shorten-requires c).After-solve_within) in (
      c.requires.0.plain,
      c.requires.1,
      fits_message (mother a.shape) a.word.now a.marks.now w.new.message f,
      zeros_fit a.shape c.requires.0.plain c.requires.1 a.word.now a.marks.now c.requires.3 w.new.message f,
      c.requires.5,
    )

pub returns : goal.returns
returns c =
    let a = c.args in
    let w = c.solve_within in
    verdict_one a.shape c.requires.0.plain c.requires.1 a.word.now a.marks.now c.requires.3 a.row.now w.new.message a.message.now c.shorten.new.message (number_of w.result) (ap number_of c.in_ok-solve_within.was)
    (long (goal.at.returns c).After-solve_within) c.shorten.ensures
