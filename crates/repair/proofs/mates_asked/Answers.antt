use mathlib.Core.Path.{sym, ◌∙◌}
use Rattle.code.proofs.Answers.{answers_in, answers_is}
use Rattle.code.proofs.Mates.{mates_number_is}
use Rattle.refusal.specs.Refusal.{number_of}
use Rattle.repair.proofs.Refusals.{strips_passed}
use Rattle.repair.proofs.mates_asked.Goals as goal

pub columns_fit-requires : goal.columns_fit-requires
columns_fit-requires c =
    let a = c.args in
    let x = c.in_ok-number.ensures in
    let z = sym (answers_is _ _ _ x) in
    let t = strips_passed (number_of a.asked) a.shape a.slot a.l a.strips.now z in
    (c.requires t.0, t.1, (answers_in _ _ _ z x).1 ∙ mates_number_is a.shape a.slot t.1.slot)
