use lib.ListN.{length}
use mathlib.Core.Path.{◌∙◌}
use native.Mathlib.Omega.{arith}
use Rattle.copy_mending.proofs.Copying.{loaded}
use Rattle.copy_mending.proofs.Mending.{mended_copy}
use Rattle.copy_mending.proofs.mend_copy.Goals as goal

pub returns : goal.returns
returns c =
    let a = c.args in
    let d = c.load in
    let g = c.mend_groups in
    let m = c.copy_from_slice.ensures.after in
    let R = c.requires.1 in
    mended_copy a.shape a.word.now a.marks.now d.new.rests g.new.word g.new.marks g.result c.requires.0.plain.family R
    (λ p h k. loaded (length a.marks.now) a.word.now a.marks.now a.copy.now d.new.rests d.ensures p (omega (arith, R.marks)) k) (d.ensures.size ∙ c.requires.2)
    (rw m at g.ensures.0) (rw m at g.ensures.1) (rw m at g.ensures.2)
