use mathlib.Core.Path.{refl}
use Rattle.group_plans.specs.Plan.{blocks}
use Rattle.group_plans.proofs.Several.{blocks_hold}
use Rattle.group_plans.proofs.blocks_of.Goals as goal

pub returns : goal.returns
unfolding blocks
returns c =
    (refl, blocks_hold c.args.shape.k c.args.shape.r c.requires.0.r_least)
