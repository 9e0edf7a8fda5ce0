use mathlib.Core.Path.{◌≡◌, ◌∙◌}
use native.Mathlib.Omega.{arith}
use Rattle.code.specs.Question.{ask}
use Rattle.code.specs.Family.{single}
use Rattle.code.specs.Erasure.{kept_below}
use Rattle.refusal.proofs.Refusals.{chain}
use Rattle.std.proofs.lemmas.Bool.Decides.{nat_tests}
use Rattle.sheet.specs.Sheet.{symbols_in, marks_in}
use Rattle.sheet.specs.Calls.{body_refusal}
use Rattle.sheet.proofs.Refusals.{symbols_kept}
use Rattle.sheet.proofs.body_asked.Goals as goal
use Rattle.sheet.proofs.body_asked.Goals.{After-symbols_fit-kept}

-- question 6
kept : (c : After-symbols_fit-kept) → let a = c.args in c.symbols_fit-kept.result ≡ kept_below (single a.code) (symbols_in a.sheet.now) (marks_in a.sheet.now)
kept c = c.symbols_fit-kept.ensures ∙ symbols_kept c.args.code c.args.sheet.now _ c.requires.0 c.order.ensures.0

pub returns-in_err-require-3 : goal.returns-in_err-require-3
unfolding ask body_refusal
returns-in_err-require-3 c = let h = kept (goal.at.returns-in_err-require-3 c).After-symbols_fit-kept in grind (arith, nat_tests, chain)

pub returns : goal.returns
unfolding ask body_refusal
returns c = let h = kept (goal.at.returns c).After-symbols_fit-kept in grind (arith, nat_tests, chain)
