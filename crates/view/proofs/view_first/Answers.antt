use mathlib.Core.Path.{sym, subst}
use Rattle.code.specs.Family.{single, code_refusal}
use Rattle.code.specs.Laws.{Placed}
use Rattle.code.proofs.Places.{slot_room}
use Rattle.code.proofs.Accepted.{mending_of}
use Rattle.view.proofs.Refusals.{ViewPassed, view_passed}
use Rattle.view.proofs.view_first.Goals as goal
use Rattle.view.proofs.view_first.Goals.{In_ok-group_view_refusal}

-- no question refuses
passed : (c : In_ok-group_view_refusal) → let a = c.args in ViewPassed (code_refusal a.code) (single a.code) a.slot a.word.now
passed c =
    let a = c.args in
    view_passed (code_refusal a.code) (single a.code) a.slot a.word.now (sym c.in_ok-group_view_refusal.ensures)

placed : (c : In_ok-group_view_refusal) → Placed (single c.args.code)
placed c = (mending_of c.args.code (passed c).accepted).placed

pub group_of-requires : goal.group_of-requires
group_of-requires c =
    let l = (goal.at.group_of-requires c).In_ok-group_view_refusal in
    let P = subst Placed (sym c.single-shape.ensures) (placed l) in
    (P, slot_room _ P _ (rw c.single-shape.ensures (passed l).slot_below))

pub first_of-first-requires : goal.first_of-first-requires
first_of-first-requires c =
    (subst Placed (sym c.single-shape.ensures) (placed (goal.at.first_of-first-requires c).In_ok-group_view_refusal), c.group_of.ensures.1)
