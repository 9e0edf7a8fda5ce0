use mathlib.Core.Path.{◌≡◌, refl, sym, ap, ◌∙◌}
use Prim.Native.Nat.{◌*◌}
use native.Mathlib.Omega.{arith}
use lib.ListN.{length}
use Rattle.code.specs.Repair.{weights}
use Rattle.code.specs.Laws.{Mending}
use Rattle.code.specs.Shape.{mates}
use Rattle.code.proofs.Accepted.{mending}
use Rattle.code.proofs.Answers.{answers_in, answers_is, fills_yes}
use Rattle.code.proofs.Mates.{mates_number_is}
use Rattle.refusal.specs.Refusal.{number_of}
use Rattle.repair.specs.Mates.{mates_refusal, RebuildSays}
use Rattle.repair.specs.Promise.{Strips}
use Rattle.weights.proofs.Sixteen.{length_sixteen}
use Rattle.weights.proofs.Weighing.{mates_most}
use Rattle.repair.proofs.Refusals.{mates_passed}
use Rattle.repair.proofs.Strips.{strip_is}
use Rattle.repair.proofs.rebuild_with.Goals as goal
use Rattle.repair.proofs.rebuild_with.Goals.{In_ok-number}

-- nothing is refused
zero : (c : In_ok-number) → let a = c.args in mates_refusal (number_of a.asked) a.shape a.slot (length a.output.now) a.strips.now ≡ 0
zero c = sym (answers_is _ _ _ c.in_ok-number.ensures)

passed : (c : In_ok-number) → let a = c.args in Mending a.shape × Strips a.shape a.slot (length a.output.now) a.strips.now
passed c =
    let a = c.args in
    let t = mates_passed (number_of a.asked) a.shape a.slot (length a.output.now) a.strips.now (zero c) in
    (mending a.shape (c.requires t.0), t.1)

number : (c : In_ok-number) → let a = c.args in c.in_ok-number.field-0 ≡ length (mates a.shape a.slot)
number c =
    let a = c.args in
    (answers_in _ _ _ (zero c) c.in_ok-number.ensures).1 ∙ mates_number_is a.shape a.slot (passed c).1.slot

pub weights_of-weights-requires : goal.weights_of-weights-requires
weights_of-weights-requires c = let t = passed (goal.at.weights_of-weights-requires c).In_ok-number in (t.0, t.1.slot)

pub rebuild_columns-requires : goal.rebuild_columns-requires
rebuild_columns-requires c =
    let a = c.args in
    let l = (goal.at.rebuild_columns-requires c).In_ok-number in
    let t = passed l in
    let k = mates_most a.shape t.0 a.slot t.1.slot in (
      omega (arith, k, number l),
      omega (arith, k, number l, ap (λ l. length l) c.weights_of-weights.ensures, length_sixteen (weights a.shape a.slot)),
      t.1.most,
      t.1.long ∙ ap (λ k. k * length a.output.now) (sym (number l)),
    )

pub returns : goal.returns
unfolding RebuildSays
returns c =
    let a = c.args in
    let l = (goal.at.returns c).In_ok-number in
    let t = passed l in
    fills_yes _ _ _ _ _ (zero l) refl
    (c.rebuild_columns.ensures
    ∙ strip_is a.shape t.0 a.slot t.1.slot (length a.output.now) c.weights_of-weights.result a.strips.now c.weights_of-weights.ensures _ (number l))
