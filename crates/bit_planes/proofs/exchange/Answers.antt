use mathlib.Core.Path.{◌∙◌}
use native.Mathlib.Omega.{arith}
use lib.ListN.{length-set}
use Rattle.bit_planes.proofs.Exchanges.{own_more, all_exchanged}
use Rattle.bit_planes.proofs.exchange.Goals as goal

pub loop-p-preserved : goal.loop-p-preserved
loop-p-preserved g c =
    let l = c.loop-p in
    (length-set l.z l.p c.entry.result ∙ l.invariant.0, own_more g.row.J c.args.v.now l.z l.p c.entry.result (omega (arith, l.invariant.0)) c.entry.ensures l.invariant.1)

pub returns : goal.returns
returns g c =
    let l = c.loop-p in
    (l.invariant.0, all_exchanged g.row.J c.args.v.now l.z (λ q h. l.invariant.1 q (omega arith)))
