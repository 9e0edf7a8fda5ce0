use mathlib.Core.Path.{◌≡◌}
use mathlib.Core.Bool.{true, false}
use native.Mathlib.Omega.{arith}
use Rattle.std.proofs.lemmas.Bool.Decides.{nat_tests}
use Rattle.code.specs.Question.{ask}
use Rattle.code.proofs.Bounds.{n_most}
use Rattle.code.proofs.Fits.{kept_symbol}
use Rattle.refusal.specs.Refusal.{number_of}
use Rattle.refusal.proofs.Refusals.{is_refusal}
use Rattle.fitting.specs.Step.{gaps_zero}
use Rattle.fitting.proofs.Pointing.{pointed_all}
use Rattle.fitting.proofs.Interpolating.{points_below, points_differ, sure_most, within, verdict_missed, verdict_foreign, verdict_read}
use Rattle.fitting.proofs.solve_within.Goals as goal

pub overflow_sub-n : goal.overflow_sub-n
overflow_sub-n c = let g = c.guarantee_of-sure in sure_most c.args.shape c.requires.0 g.result g.ensures

pub interpolate-interpolated-requires : goal.interpolate-interpolated-requires
interpolate-interpolated-requires c =
    let a = c.args in
    let g = c.guarantee_of-sure in
    let t = c.fill_points in
    let R = c.requires.2 in
    let W = pointed_all a.shape c.requires.0.plain.family.placed t.new.points t.ensures in
    rw R.marks (
      n_most a.shape c.requires.0.plain.family.placed,
      R.word,
      points_below a.shape c.requires.0 t.new.points W,
      points_differ a.shape c.requires.0 t.new.points W,
      kept_symbol a.shape a.word.now a.marks.now R.kept,
      within a.shape c.requires.0 a.marks.now g.result g.ensures c.requires.4,
    )

pub returns-in_err-require : goal.returns-in_err-require
unfolding ask
returns-in_err-require c =
    let a = c.args in
    let g = c.guarantee_of-sure in
    let t = c.fill_points in
    let i = c.interpolate-interpolated in
    let none : number_of c.from_residual.result ≡ 9 = grind (arith, nat_tests, is_refusal) in
    let missed : i.result ≡ false = grind (arith, nat_tests, is_refusal) in
    rw none (verdict_missed a.shape c.requires.0 c.requires.1 g.result g.ensures t.new.points (pointed_all a.shape c.requires.0.plain.family.placed t.new.points t.ensures) a.word.now a.marks.now i.new.coefs i.result (rw c.requires.2.marks at i.ensures) a.message.now missed)

pub returns-in_err-require-2 : goal.returns-in_err-require-2
unfolding ask
returns-in_err-require-2 c =
    let a = c.args in
    let g = c.guarantee_of-sure in
    let t = c.fill_points in
    let i = c.interpolate-interpolated in
    let none : number_of c.from_residual-in_err-require-2.result ≡ 9 = grind (arith, nat_tests, is_refusal) in
    let foreign : gaps_zero a.shape i.new.coefs ≡ false = grind (arith, nat_tests, is_refusal) in
    rw none (verdict_foreign a.shape c.requires.0 c.requires.1 g.result g.ensures t.new.points (pointed_all a.shape c.requires.0.plain.family.placed t.new.points t.ensures) a.word.now a.marks.now i.new.coefs i.result (rw c.requires.2.marks at i.ensures) a.message.now foreign)

pub returns : goal.returns
unfolding ask
returns c =
    let a = c.args in
    let g = c.guarantee_of-sure in
    let t = c.fill_points in
    let i = c.interpolate-interpolated in
    let m = c.read_message in
    let through : i.result ≡ true = grind (arith, nat_tests) in
    let zero : gaps_zero a.shape i.new.coefs ≡ true = grind (arith, nat_tests) in
    verdict_read a.shape c.requires.0 c.requires.1 g.result g.ensures t.new.points (pointed_all a.shape c.requires.0.plain.family.placed t.new.points t.ensures) a.word.now a.marks.now i.new.coefs i.result (rw c.requires.2.marks at i.ensures) through zero a.message.now m.new.message m.ensures
