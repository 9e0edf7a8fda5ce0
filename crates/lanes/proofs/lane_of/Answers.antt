use Prim.Native.Nat.{◌+◌, ◌*◌}
use Rattle.std.proofs.Common.{rules}
use Rattle.algebra.specs.Sequence.{at}
use Rattle.algebra.proofs.Tabulate.{tabulate_is}
use Rattle.lanes.proofs.lane_of.Goals as goal

pub returns : goal.returns
returns c =
    let made = c.from_fn.ensures.items in
    tabulate_is (λ p. at c.args.t.now (c.args.o + p * 32)) 0 8 c.from_fn.result made.long (λ i h. let s = made.at i 0 h in search rules)
