use mathlib.Core.Path.{◌≡◌, ap, ap₂, ◌∙◌}
use Prim.Native.Nat.{ℕ, ◌+◌, ◌*◌, ◌≤◌, ◌<◌}
use native.Mathlib.Omega.{arith}
use lib.ListN.{length, replicate}
use Rattle.algebra.specs.Sequence.{at}
use Rattle.algebra.proofs.Filling.{Filled, filled_none, filled_more}
use Rattle.field.specs.Field.{γ, minus, power}
use Rattle.code.specs.Shape.{members, mates}
use Rattle.code.specs.Repair.{weights}
use Rattle.code.proofs.Places.{groups_least, slot_room}
use Rattle.code.proofs.Mates.{length_mates}
use Rattle.layout.proofs.Numbers.{worked_below, steps_below}
use Rattle.weights.proofs.Weighing.{length_weights, turned_weight}
use Rattle.weights.proofs.Sixteen.{sixteen_of}
use Rattle.weights.proofs.weights_of.Invariants.{entry}
use Rattle.weights.proofs.weights_of.Goals as goal
use Rattle.weights.proofs.weights_of.Goals.{At-loop-i}

pub size_of-size-requires : goal.size_of-size-requires
size_of-size-requires c = c.requires.0.placed

pub group_of-group-requires : goal.group_of-group-requires
group_of-group-requires c =
    let P = c.requires.0.placed in
    (P, slot_room c.args.shape P c.args.slot c.requires.1)

pub member_of-member-requires : goal.member_of-member-requires
member_of-member-requires c =
    let P = c.requires.0.placed in
    (P, slot_room c.args.shape P c.args.slot c.requires.1)

pub members_of-members-requires : goal.members_of-members-requires
members_of-members-requires c = (c.requires.0.placed, c.group_of-group.ensures.1)

pub width_of-width-requires : goal.width_of-width-requires
width_of-width-requires c = c.requires.0.placed

pub loop-i-init : goal.loop-i-init
loop-i-init c =
    filled_none (entry c.args.shape.field c.size_of-size.result c.member_of-member.result c.width_of-width.result) (replicate 16 0)

-- one weight fewer than the group has members, at most sixteen
few : (c : At-loop-i) → (c.members_of-members.result ≤ c.size_of-size.result) × (c.size_of-size.result ≤ 17)
few c =
    let z = c.size_of-size.ensures in
    let P = c.requires.0.placed in
    (omega (arith, c.members_of-members.ensures.2, z), omega (arith, z, P.size_most))

pub mate_steps-steps-requires : goal.mate_steps-steps-requires
mate_steps-steps-requires c =
    let n = few (goal.at.mate_steps-steps-requires c).At-loop-i in
    (omega (arith, c.member_of-member.ensures.1, c.size_of-size.ensures), omega (arith, n.0, n.1), omega (arith, n.1))

pub member_point-y-requires : goal.member_point-y-requires
member_point-y-requires c =
    let P = c.requires.0.placed in
    let t = c.size_of-size in
    let o = c.member_of-member in
    let w = c.width_of-width in
    let b = steps_below t.result o.result c.loop-i.i (omega (arith, o.ensures.1, t.ensures)) (omega (arith, (few (goal.at.member_point-y-requires c).At-loop-i).0)) in (worked_below c.args.shape P 0 c.mate_steps-steps.result w.result (groups_least c.args.shape P)
    (omega (arith, c.mate_steps-steps.ensures, b, t.ensures)) w.ensures)

pub bounds-weights-i : goal.bounds-weights-i
bounds-weights-i c =
    let n = few (goal.at.bounds-weights-i c).At-loop-i in
    omega (arith, n.0, n.1, c.loop-i.invariant.size)

pub loop-i-preserved : goal.loop-i-preserved
loop-i-preserved c =
    let f = c.args.shape.field in
    let l = c.loop-i in
    let t = c.size_of-size.result in
    let o = c.member_of-member.result in
    let w = c.width_of-width.result in
    let n = few (goal.at.loop-i-preserved c).At-loop-i in
    let y = c.member_point-y.ensures ∙ ap (λ n. power f γ (0 + n * w)) c.mate_steps-steps.ensures in
    filled_more (entry f t o w) l.i c.sub.result (replicate 16 0) l.weights (omega (arith, n.0, n.1, l.invariant.size)) (c.sub.ensures ∙ ap (minus f 0) y) l.invariant

-- what was worked out are the weights
pub returns : goal.returns
returns c =
    let p = c.args.slot in
    let h = c.args.shape in
    let f = h.field in
    let M = c.requires.0 in
    let l = c.loop-i in
    let t = c.size_of-size in
    let o = c.member_of-member in
    let w = c.width_of-width in
    let is : (k : ℕ) → k < length (mates h p) → entry f t.result o.result w.result k ≡ at (weights h p) k = λ k b.
    ap₂ (λ t o. entry f t o w.result k) t.ensures o.ensures.0 ∙ turned_weight h M p c.requires.1 k b w.result w.ensures in
    let e : l.i ≡ length (mates h p)
    = omega (arith, c.members_of-members.ensures.0, ap (members h) c.group_of-group.ensures.0, length_mates h M.placed p c.requires.1) in
    let F : Filled (at (weights h p)) l.i (replicate 16 0) l.weights
    = record { size = l.invariant.size; below = λ k b. l.invariant.below k b ∙ is k (omega arith); above = l.invariant.above } in
    sixteen_of (weights h p) l.i l.weights (omega (arith, length_weights h M p c.requires.1)) F
