use Rattle.bit_planes.proofs.Exchanges.{transposed_is}
use Rattle.bit_planes.proofs.transposed.Goals as goal

pub returns : goal.returns
returns c =
    (c.exchange.ensures.0, transposed_is c.args.v.now c.exchange-a.result c.exchange-b.result c.exchange.result c.exchange-a.ensures.1 c.exchange-b.ensures.1 c.exchange.ensures.1)
