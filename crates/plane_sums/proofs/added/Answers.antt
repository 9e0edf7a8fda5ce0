use Rattle.std.proofs.Common.{rules}
use Rattle.plane_sums.proofs.Lanes.{added_lane}
use Rattle.plane_sums.proofs.added.Goals as goal

pub returns : goal.returns
returns c =
    let made = c.from_fn.ensures.items in
    added_lane c.args.v.now c.args.w.now c.requires.0 c.requires.1 c.from_fn.result (λ p h. let s = made.at p 0 h in search rules)
