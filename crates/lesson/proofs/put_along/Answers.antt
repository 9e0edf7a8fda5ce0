use Rattle.std.proofs.Common.{arith}
use Rattle.code.proofs.Places.{n_room}
use Rattle.lesson.proofs.put_along.Goals as goal

pub point_of-requires : goal.point_of-requires
point_of-requires g c = (c.requires, omega (arith, n_room c.args.shape c.requires))
