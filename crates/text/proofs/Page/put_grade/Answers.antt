use native.Mathlib.Omega.{arith}
use Rattle.text.specs.Text.{ascii, named, grade_end}
use Rattle.text.proofs.Puts.{wrote_then}
use Rattle.text.proofs.Page.put_grade.Goals as goal

pub returns : goal.returns
unfolding grade_end named ascii
returns c =
    let p = c.put_named.ensures in
    let q = c.put_named-2.ensures in
    let r = c.put.ensures in
    (wrote_then (wrote_then p.0 q.0 (omega arith)) r (omega arith), omega arith)
