use native.Mathlib.Omega.{arith}
use Rattle.text.specs.Text.{ascii, named}
use Rattle.text.proofs.Puts.{wrote_then}
use Rattle.preview_lines.specs.Lines.{slot_line}
use Rattle.preview_lines.proofs.put_slot.Goals as goal

pub returns : goal.returns
unfolding slot_line named ascii
returns c =
    let p = c.put_named.ensures in
    let q = c.put_grade.ensures in
    let h = c.requires.0 in
    (wrote_then p.0 q.0 (omega arith), omega arith)
