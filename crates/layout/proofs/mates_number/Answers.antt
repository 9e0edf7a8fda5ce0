use mathlib.Core.Path.{◌≡◌, ap}
use native.Mathlib.Omega.{arith}
use Rattle.code.specs.Shape.{size, group, members}
use Rattle.code.proofs.Places.{slot_room}
use Rattle.code.proofs.Bounds.{r_most}
use Rattle.code.proofs.Mates.{length_mates, mates_number_is, mates_number_none}
use Rattle.layout.proofs.mates_number.Goals as goal

pub returns-then-slot-n : goal.returns-then-slot-n
unfolding size
returns-then-slot-n c =
    let s = c.args.shape in
    (omega (arith, mates_number_none s c.args.slot c.if-slot-n.true, c.requires.one), r_most s c.requires.placed)

pub group_of-requires : goal.group_of-requires
group_of-requires c =
    let s = c.args.shape in
    (c.requires.placed, slot_room s c.requires.placed c.args.slot c.if-slot-n.false)

pub returns : goal.returns
unfolding size
returns c =
    let s = c.args.shape in
    let m = c.members_of.ensures in
    let h = c.if-slot-n.false in
    let k : members s c.group_of.result ≡ members s (group s c.args.slot) = ap (members s) c.group_of.ensures.0 in
    (omega (arith, m.0, k, length_mates s c.requires.placed c.args.slot h, mates_number_is s c.args.slot h), omega (arith, m.2, c.requires.placed.size_most))
