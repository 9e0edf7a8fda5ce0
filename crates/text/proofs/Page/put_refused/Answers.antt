use native.Mathlib.Omega.{arith}
use Rattle.text.specs.Text.{ascii, named, refused_line}
use Rattle.text.proofs.Puts.{wrote_then}
use Rattle.text.proofs.Page.put_refused.Goals as goal

pub returns : goal.returns
unfolding refused_line named ascii
returns c =
    let p = c.put_named.ensures in
    let r = c.put.ensures in
    (wrote_then p.0 r (omega arith), omega arith)
