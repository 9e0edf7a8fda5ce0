use Rattle.std.proofs.Common.{arith}
use Rattle.code.proofs.Places.{missing_less}
use Rattle.lesson.proofs.put_polynomial.Goals as goal

pub overflow_add-filled : goal.overflow_add-filled
overflow_add-filled g c = omega (arith, missing_less c.args.shape c.requires.0, c.requires.0.size_most)
