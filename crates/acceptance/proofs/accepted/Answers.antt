use Rattle.code.specs.Question.{ask}
use Rattle.code.specs.Shape.{size}
use Rattle.code.specs.Family.{single}
use Rattle.acceptance.proofs.Fits.{r_says, n_says, room_most}
use Rattle.acceptance.proofs.accepted.Goals as goal
use Rattle.std.proofs.Common.{arith}

pub length_fits-requires : goal.length_fits-requires
unfolding ask size
length_fits-requires c = grind (arith, r_says (single c.args.code))

pub dimension_fits-requires : goal.dimension_fits-requires
unfolding ask size
dimension_fits-requires c = grind (arith, r_says (single c.args.code), n_says (single c.args.code), room_most (single c.args.code))

pub wiring_fits-requires : goal.wiring_fits-requires
unfolding ask size
wiring_fits-requires c = grind (arith, r_says (single c.args.code))
