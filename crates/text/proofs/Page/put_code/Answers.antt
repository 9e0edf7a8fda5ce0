use native.Mathlib.Omega.{arith}
use Rattle.text.specs.Text.{ascii, named, code_line}
use Rattle.text.proofs.Puts.{wrote_then}
use Rattle.text.proofs.Page.put_code.Goals as goal

pub returns : goal.returns
unfolding code_line named ascii
returns c =
    let p = c.put_named.ensures in
    let q = c.put_spaced.ensures in
    let r = c.put_spaced-2.ensures in
    let s = c.put_spaced-3.ensures in
    let t = c.put_wiring.ensures in
    let u = c.put.ensures in (
      wrote_then (wrote_then (wrote_then (wrote_then (wrote_then p.0 q.0 (omega arith)) r.0 (omega arith)) s.0 (omega arith)) t.0 (omega arith)) u (omega arith),
      omega arith,
    )
