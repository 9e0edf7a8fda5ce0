use mathlib.Core.Path.{refl}
use Rattle.previewing.specs.Preview.{marked}
use Rattle.previewing.proofs.Marking.{back}
use Rattle.previewing.proofs.Replies.{preview_graded}
use Rattle.previewing.proofs.preview_in.Goals as goal

pub returns : goal.returns
unfolding marked
returns c =
    let a = c.args in
    let g = c.graded_in-seen in
    (preview_graded a.shape a.slot a.marks.now (marked a.marks.now a.slot) g.result refl g.ensures.0, back a.marks.now a.slot, g.ensures.1)
