use Rattle.std.proofs.Common.{arith}
use Rattle.code.proofs.Mates.{mates_number_is}
use Rattle.lesson.proofs.put_mates.Goals as goal

pub mate_of-requires : goal.mate_of-requires
mate_of-requires g c =
    (c.requires.0.placed, c.requires.1, omega (arith, mates_number_is c.args.shape c.args.slot c.requires.1))
