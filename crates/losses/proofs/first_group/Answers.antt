use mathlib.Core.Path.{◌≡◌, refl, ap, ◌∙◌}
use Prim.Native.Nat.{◌+◌, ◌*◌, ◌≤◌, ◌<◌}
use native.Mathlib.Omega.{arith}
use borrow.Author.Count.{below_more}
use lib.ListN.{length}
use Rattle.algebra.specs.Sequence.{count}
use Rattle.code.specs.Shape.{groups, members}
use Rattle.code.proofs.Bounds.{size_is, n_most}
use Rattle.layout.proofs.Numbers.{slot_is}
use Rattle.losses.proofs.Counts.{losses_to, member_place, member_yes, member_no, found, found_none}
use Rattle.losses.proofs.first_group.Goals as goal
use Rattle.losses.proofs.first_group.Goals.{then-marks-first-eq1, else-marks-first-eq1, In-loop-i, Joined-marks-first-eq1}

pub loop-i-init : goal.loop-i-init
unfolding count
loop-i-init c = (c.groups.invariant.0, omega arith, refl)

-- the member at hand has its slot in the word
inside : (c : In-loop-i) → let a = c.args in (c.first_of-first.result + c.loop-i.i * c.step_of-step.result < length a.marks.now) × (length a.marks.now ≤ 255)
inside c =
    let a = c.args in
    let f = c.first_of-first in
    let t = c.step_of-step in (
      omega (arith, member_place a.shape c.requires.0 c.groups.group c.loop-i.i f.result t.result (omega (arith, c.members_of-i-end.ensures.0, c.loop-i-test.true)) f.ensures t.ensures, c.requires.1),
      omega (arith, c.requires.1, n_most a.shape c.requires.0),
    )

pub overflow_mul-i : goal.overflow_mul-i
overflow_mul-i c = omega (arith, inside (goal.at.overflow_mul-i c).In-loop-i)

pub overflow_add-first : goal.overflow_add-first
overflow_add-first c = omega (arith, inside (goal.at.overflow_add-first c).In-loop-i)

pub bounds-marks-first : goal.bounds-marks-first
bounds-marks-first c = omega (arith, inside (goal.at.bounds-marks-first c).In-loop-i)

pub overflow_add-lost : goal.overflow_add-lost
overflow_add-lost c = omega (arith, c.requires.0.size_most, size_is c.args.shape, c.loop-i.invariant.1)

-- one member more
counted : (c : Joined-marks-first-eq1) → let a = c.args in
    c.if-marks-first-eq1.lost ≡ losses_to a.shape a.marks.now c.groups.group (c.loop-i.i + 1)
counted c =
    let a = c.args in
    let l = c.loop-i in
    let f = c.first_of-first in
    let j = c.groups.group in
    let t = c.step_of-step in
    let e = slot_is a.shape j l.i f.result t.result f.ensures t.ensures in
    elim c.if-marks-first-eq1.branch [
      | then-marks-first-eq1 w ↦ w.lost-is ∙ member_yes a.shape a.marks.now j l.i _ l.lost e l.invariant.2 w.if-marks-first-eq1.true
      | else-marks-first-eq1 w ↦ w.lost-is ∙ member_no a.shape a.marks.now j l.i _ l.lost e l.invariant.2 w.if-marks-first-eq1.false
    ]

pub loop-i-preserved : goal.loop-i-preserved
loop-i-preserved c = (c.loop-i.invariant.0, omega (arith, c.if-lost-shape.false), counted (goal.at.loop-i-preserved c).Joined-marks-first-eq1)

pub groups-preserved : goal.groups-preserved
groups-preserved c =
    let a = c.args in
    let l = c.loop-i in
    let o = c.groups in
    let e : l.i ≡ members a.shape o.group = omega (arith, c.members_of-i-end.ensures.0) in
    let h : l.lost ≡ losses_to a.shape a.marks.now o.group (members a.shape o.group) = l.invariant.2 ∙ ap (losses_to a.shape a.marks.now o.group) e in
    (l.invariant.0, below_more (λ i. losses_to a.shape a.marks.now i (members a.shape i) ≤ a.shape.tolerance) o.group o.invariant.1 (omega (arith, h, l.invariant.1)))

pub returns-after-groups : goal.returns-after-groups
returns-after-groups c =
    let a = c.args in
    let o = c.groups in
    let e : o.group ≡ groups a.shape = omega (arith, c.groups_of-group-end.ensures) in
    o.invariant.0 ∙ found_none a.shape c.requires.0 a.marks.now c.requires.1 o.group o.invariant.1 e

pub returns-then-lost-shape : goal.returns-then-lost-shape
returns-then-lost-shape c =
    let a = c.args in
    let l = c.loop-i in
    let o = c.groups in
    found a.shape c.requires.0 a.marks.now c.requires.1 o.group o.invariant.1 (l.i + 1) c.if-marks-first-eq1.lost (omega (arith, c.groups_of-group-end.ensures))
    (omega (arith, c.members_of-i-end.ensures.0)) (counted (goal.at.returns-then-lost-shape c).Joined-marks-first-eq1) c.if-lost-shape.true
