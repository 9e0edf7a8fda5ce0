use native.Mathlib.Omega.{arith}
use Rattle.text.specs.Text.{ascii, message_line}
use Rattle.text.proofs.Puts.{wrote_then}
use Rattle.text.proofs.Page.put_message.Goals as goal

pub returns : goal.returns
unfolding message_line ascii
returns c =
    let p = c.put.ensures in
    let q = c.put_symbols.ensures in
    let r = c.put-2.ensures in
    (wrote_then (wrote_then p q.0 (omega arith)) r (omega arith), omega arith)
