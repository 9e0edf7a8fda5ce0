use mathlib.Core.Path.{sym, subst}
use lib.ListN.{length, take, replicate}
use borrow.Rule.Slice.PartMut.{put_mid}
use Rattle.code.specs.Shape.{room}
use Rattle.fitting.proofs.Fronts.{slots_room, front_size}
use Rattle.shortening.proofs.Extending.{Extended}
use Rattle.deciding.specs.Step.{Annulled}
use Rattle.deciding.proofs.Mothers.{undecided_is, marked, asked}
use Rattle.deciding.proofs.decided_past.Goals as goal
use Rattle.deciding.proofs.decided_past.Goals.{After-copy_from_slice}

-- the marks over all places
over : (c : After-copy_from_slice) → let a = c.args in
    Extended a.shape.n (room a.shape) a.marks.now (take c.room_of-places.result (put_mid 0 (length a.marks.now) (replicate 256 0) c.copy_from_slice.new.self))
over c =
    let a = c.args in
    let l = c.room_of-places in
    let k = c.copy_from_slice in
    marked a.shape c.requires.0.plain.family.placed a.marks.now k.new.self l.result c.requires.1 l.ensures k.ensures.after

pub slice_bounds-all-end : goal.slice_bounds-all-end
slice_bounds-all-end c = slots_room c.args.shape c.requires.0.plain.family.placed c.args.marks.now c.requires.1

pub slice_bounds-copy_from_slice-end : goal.slice_bounds-copy_from_slice-end
slice_bounds-copy_from_slice-end c =
    sym (front_size (length c.args.marks.now) (slots_room c.args.shape c.requires.0.plain.family.placed c.args.marks.now c.requires.1))

pub copy_from_slice-requires : goal.copy_from_slice-requires
copy_from_slice-requires c =
    front_size (length c.args.marks.now) (slots_room c.args.shape c.requires.0.plain.family.placed c.args.marks.now c.requires.1)

pub only_zero-requires : goal.only_zero-requires
only_zero-requires c =
    let a = c.args in
    let m = c.mother_of-mother in
    let q = asked a.shape m.result c.requires.0 m.ensures a.marks.now _ (over (goal.at.only_zero-requires c).After-copy_from_slice) c.requires.2 _ c.requires.3 in
    (q.0, q.1, q.2, q.3, q.4)

pub returns : goal.returns
returns c =
    let a = c.args in
    let m = c.mother_of-mother in
    let o = c.only_zero in
    let ns = take c.room_of-places.result (put_mid 0 (length a.marks.now) (replicate 256 0) c.copy_from_slice.new.self) in
    undecided_is a.shape c.requires.0.plain a.marks.now ns (over (goal.at.returns c).After-copy_from_slice) o.result (subst (λ t. Annulled t ns o.result) m.ensures o.ensures)
