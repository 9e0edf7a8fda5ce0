use Rattle.code.specs.Shape.{size, room, groups, ceiling}
use Rattle.code.specs.Family.{single, n_fits}
use Rattle.acceptance.proofs.Fits.{room_most}
use Rattle.acceptance.proofs.length_fits.Goals as goal
use Rattle.std.proofs.Common.{arith}
use Rattle.std.proofs.lemmas.Bool.Decides.{nat_tests}

pub returns-then-shared : goal.returns-then-shared
unfolding n_fits room groups ceiling size
returns-then-shared c = grind (arith, nat_tests, room_most (single c.args.code))

pub returns-else-shared : goal.returns-else-shared
unfolding n_fits room groups ceiling size
returns-else-shared c = grind (arith, nat_tests, room_most (single c.args.code))
