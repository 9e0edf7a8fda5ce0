use mathlib.Core.Path.{sym}
use lib.ListN.{length}
use Rattle.fitting.proofs.Fronts.{slots_room, front_size}
use Rattle.deciding.proofs.decided.Goals as goal

pub slice_bounds-room-end : goal.slice_bounds-room-end
slice_bounds-room-end c = slots_room c.args.shape c.requires.0.plain.family.placed c.args.marks.now c.requires.1

pub slice_bounds-left-end : goal.slice_bounds-left-end
slice_bounds-left-end c =
    sym (front_size (length c.args.marks.now) (slots_room c.args.shape c.requires.0.plain.family.placed c.args.marks.now c.requires.1))

pub copy_from_slice-requires : goal.copy_from_slice-requires
copy_from_slice-requires c =
    front_size (length c.args.marks.now) (slots_room c.args.shape c.requires.0.plain.family.placed c.args.marks.now c.requires.1)
