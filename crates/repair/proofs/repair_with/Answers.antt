use mathlib.Core.Path.{◌≡◌, refl, sym, ap, ◌∙◌}
use native.Mathlib.Omega.{arith}
use lib.ListN.{length}
use Rattle.code.specs.Repair.{weights}
use Rattle.code.specs.Laws.{Mending}
use Rattle.code.proofs.Accepted.{mending}
use Rattle.code.proofs.Answers.{answers_is, answers_yes}
use Rattle.refusal.specs.Refusal.{number_of}
use Rattle.repair.specs.Mates.{mates_refusal, RepairSays}
use Rattle.repair.specs.Promise.{Strips}
use Rattle.weights.proofs.Sixteen.{length_sixteen}
use Rattle.weights.proofs.Weighing.{mates_most, dotted_repaired}
use Rattle.repair.proofs.Refusals.{mates_passed}
use Rattle.repair.proofs.repair_with.Goals as goal
use Rattle.repair.proofs.repair_with.Goals.{In_ok-mates_asked}

-- nothing is refused
zero : (c : In_ok-mates_asked) → let a = c.args in mates_refusal (number_of a.asked) a.shape a.slot 1 a.mates.now ≡ 0
zero c = sym (answers_is _ _ _ c.in_ok-mates_asked.ensures)

passed : (c : In_ok-mates_asked) → let a = c.args in Mending a.shape × Strips a.shape a.slot 1 a.mates.now
passed c =
    let a = c.args in
    let t = mates_passed (number_of a.asked) a.shape a.slot 1 a.mates.now (zero c) in
    (mending a.shape (c.requires t.0), t.1)

pub weights_of-weights-requires : goal.weights_of-weights-requires
weights_of-weights-requires c = let t = passed (goal.at.weights_of-weights-requires c).In_ok-mates_asked in (t.0, t.1.slot)

pub rebuild_column-symbol-requires : goal.rebuild_column-symbol-requires
rebuild_column-symbol-requires c =
    let a = c.args in
    let t = passed (goal.at.rebuild_column-symbol-requires c).In_ok-mates_asked in
    let k = mates_most a.shape t.0 a.slot t.1.slot in
    (omega (arith, t.1.long, k, ap (λ l. length l) c.weights_of-weights.ensures, length_sixteen (weights a.shape a.slot)), omega arith)

pub returns : goal.returns
unfolding RepairSays
returns c =
    let a = c.args in
    let l = (goal.at.returns c).In_ok-mates_asked in
    let t = passed l in
    answers_yes _ _ _ (zero l) refl
    (c.rebuild_column-symbol.ensures
    ∙ dotted_repaired a.shape t.0 a.slot t.1.slot c.weights_of-weights.result a.mates.now c.weights_of-weights.ensures (omega (arith, t.1.long)))
