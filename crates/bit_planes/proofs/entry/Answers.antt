use Rattle.std.proofs.Common.{rules}
use Rattle.bit_planes.proofs.Exchanges.{own_low, own_high}
use Rattle.bit_planes.proofs.entry.Goals as goal

pub returns-then-p-eq0 : goal.returns-then-p-eq0
returns-then-p-eq0 g c = own_low g.row.J c.args.p c.args.v.now c.requires.0 c.requires.1 (λ i. search rules) c.if-p-eq0.true

pub returns-else-p-eq0 : goal.returns-else-p-eq0
returns-else-p-eq0 g c = own_high g.row.J c.args.p c.args.v.now c.requires.0 c.requires.1 (λ i. search rules) c.if-p-eq0.false
