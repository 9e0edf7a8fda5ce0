use Rattle.plane_sums.proofs.Lanes.{next_lane}
use Rattle.plane_sums.proofs.level.Goals as goal

pub returns : goal.returns
returns c =
    next_lane c.args.v.now c.args.e.now c.requires.0 c.requires.1
