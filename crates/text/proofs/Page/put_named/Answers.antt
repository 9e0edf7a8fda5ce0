use native.Mathlib.Omega.{arith}
use Rattle.text.proofs.Puts.{wrote_then}
use Rattle.text.proofs.Page.put_named.Goals as goal

pub returns : goal.returns
returns c =
    let p = c.put.ensures in
    let r = c.put_spaced.ensures in
    (wrote_then p r.0 (omega arith), omega arith)
