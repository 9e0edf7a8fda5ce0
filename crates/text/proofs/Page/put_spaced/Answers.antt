use native.Mathlib.Omega.{arith}
use Rattle.text.specs.Text.{ascii, spaced}
use Rattle.text.proofs.Puts.{wrote_then}
use Rattle.text.proofs.Page.put_spaced.Goals as goal

pub returns : goal.returns
unfolding spaced ascii
returns c =
    let p = c.put.ensures in
    let r = c.put_number.ensures in
    (wrote_then p r.0 (omega arith), omega arith)
