use mathlib.Core.Path.{◌≡◌}
use mathlib.Core.Logic.{◌≢◌}
use native.Mathlib.Omega.{arith}
use borrow.Author.Rules.{rules}
use lib.ListN.{length}
use Rattle.code.specs.Question.{ask}
use Rattle.refusal.specs.Refusal.{number_of}
use Rattle.refusal.proofs.Refusals.{is_refusal}
use Rattle.std.proofs.lemmas.Bool.Decides.{nat_tests}
use Rattle.sheet_binding.proofs.Sheets.{read_five, read_err, read_ok}
use Rattle.sheet_binding.proofs.read_into.Goals as goal

pub returns-in_err-require : goal.returns-in_err-require
unfolding ask
returns-in_err-require c =
    let a = c.args in
    let n : length a.code.now ≢ 5 = grind (arith, nat_tests, is_refusal) in
    let x : number_of c.from_residual.result ≡ 5 = grind (arith, nat_tests, is_refusal) in
    read_five a.sheet.now a.word.now a.marks.now a.code.now _ n x

pub returns-in_err-read : goal.returns-in_err-read
unfolding ask
returns-in_err-read c =
    let l : length c.args.code.now ≡ 5 = grind (arith, nat_tests) in
    read_err _ _ _ _ _ _ _ c.in_err-read.field-0.0 l c.in_err-read.ensures (search rules)

pub returns : goal.returns
unfolding ask
returns c =
    let l : length c.args.code.now ≡ 5 = grind (arith, nat_tests) in
    read_ok _ _ _ _ _ _ _ _ l c.in_ok-read.ensures (search rules)
