use mathlib.Core.Path.{◌≡◌, sym, ap, ◌∙◌}
use Prim.Native.Nat.{◌+◌, ◌-◌, ◌≤◌}
use native.Mathlib.Omega.{arith}
use Rattle.code.proofs.Places.{slot_room}
use Rattle.code.proofs.Bounds.{n_most}
use Rattle.code.proofs.Mates.{member_own}
use Rattle.layout.specs.Step.{span}
use Rattle.layout.proofs.Spans.{span_within, length_lent}
use Rattle.weights.specs.Weights.{sixteen}
use Rattle.promise.proofs.Gathering.{gathered}
use Rattle.promise.proofs.mates_in.Goals as goal
use Rattle.promise.proofs.mates_in.Goals.{After-span_of}

pub group_of-group-requires : goal.group_of-group-requires
group_of-group-requires c =
    let P = c.requires.0.placed in
    (P, slot_room c.args.shape P c.args.slot c.requires.1)

pub first_of-start-requires : goal.first_of-start-requires
first_of-start-requires c = (c.requires.0.placed, c.group_of-group.ensures.1)

pub span_of-requires : goal.span_of-requires
span_of-requires c = (c.requires.0.placed, c.group_of-group.ensures.1)

-- the group's span, which is small
within : (c : After-span_of) → (c.first_of-start.result + c.span_of.result ≤ c.args.shape.n) × (c.args.shape.n ≤ 255)
within c =
    let h = c.args.shape in
    let P = c.requires.0.placed in
    let g = c.group_of-group in (
      span_within h P g.result c.first_of-start.result c.span_of.result g.ensures.1 (sym c.first_of-start.ensures) (sym c.span_of.ensures),
      n_most h P,
    )

pub overflow_add-end : goal.overflow_add-end
overflow_add-end c = omega (arith, within (goal.at.overflow_add-end c).After-span_of)

pub member_of-member-requires : goal.member_of-member-requires
member_of-member-requires c =
    let P = c.requires.0.placed in
    (P, slot_room c.args.shape P c.args.slot c.requires.1)

pub slice_bounds-mates_of-end : goal.slice_bounds-mates_of-end
slice_bounds-mates_of-end c = omega (arith, within (goal.at.slice_bounds-mates_of-end c).After-span_of, c.requires.2)

-- how many slots are lent
lent : (c : After-span_of) → span c.args.shape c.group_of-group.result ≡ c.first_of-start.result + c.span_of.result - c.first_of-start.result
lent c = omega (arith, c.span_of.ensures)

pub mates_of-requires : goal.mates_of-requires
mates_of-requires c =
    let P = c.requires.0.placed in
    let g = c.group_of-group in
    let m = c.first_of-start in (
      c.requires.0,
      g.ensures.1,
      rw (g.ensures.0, c.member_of-member.ensures.0) (member_own c.args.shape P c.args.slot c.requires.1),
      length_lent c.args.shape P g.result m.result (m.result + c.span_of.result - m.result) g.ensures.1 (sym m.ensures) (lent (goal.at.mates_of-requires c).After-span_of) c.args.word.now c.requires.2,
    )

pub returns : goal.returns
returns c =
    let a = c.args in
    let g = c.group_of-group in
    let m = c.first_of-start in
    let o = c.member_of-member in
    c.mates_of.ensures
    ∙ ap sixteen
    (gathered a.shape a.slot c.requires.1 a.word.now c.requires.0.placed m.result (m.result + c.span_of.result - m.result) g.result o.result
    (sym m.ensures) (lent (goal.at.returns c).After-span_of) g.ensures.0 o.ensures.0)
