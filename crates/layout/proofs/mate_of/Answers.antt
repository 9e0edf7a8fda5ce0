use mathlib.Core.Path.{sym, ap, ap₂, ◌∙◌}
use native.Mathlib.Omega.{arith}
use Rattle.code.specs.Shape.{group, slot_at}
use Rattle.code.proofs.Places.{slot_room}
use Rattle.code.proofs.Mates.{length_mates, members_most}
use Rattle.layout.specs.Step.{mate_member}
use Rattle.layout.proofs.Numbers.{mate_size, mate_is, mate_slot}
use Rattle.layout.proofs.mate_of.Goals as goal

pub group_of-group-requires : goal.group_of-group-requires
group_of-group-requires c = (c.requires.0, slot_room c.args.shape c.requires.0 c.args.slot c.requires.1)

pub member_of-member-requires : goal.member_of-member-requires
member_of-member-requires c = (c.requires.0, slot_room c.args.shape c.requires.0 c.args.slot c.requires.1)

pub mate_member-requires : goal.mate_member-requires
mate_member-requires c =
    let s = c.args.shape in
    omega (arith, c.requires.2, length_mates s c.requires.0 c.args.slot c.requires.1, members_most s c.requires.0 (group s c.args.slot), c.requires.0.size_most)

pub slot_at-requires : goal.slot_at-requires
slot_at-requires c =
    let s = c.args.shape in
    let m = ap (λ o. mate_member o c.args.i) c.member_of-member.ensures.0 in
    (c.requires.0, c.group_of-group.ensures.1, rw (c.mate_member.ensures, m) (mate_size s c.requires.0 c.args.slot c.requires.1 c.args.i c.requires.2))

pub returns : goal.returns
returns c =
    let s = c.args.shape in
    let m = c.mate_member.ensures ∙ ap (λ o. mate_member o c.args.i) c.member_of-member.ensures.0 in
    let is = c.slot_at.ensures ∙ ap₂ (slot_at s) c.group_of-group.ensures.0 m ∙ sym (mate_is s c.requires.0 c.args.slot c.requires.1 c.args.i c.requires.2) in
    (is, rw is (mate_slot s c.requires.0 c.args.slot c.requires.1 c.args.i c.requires.2))
