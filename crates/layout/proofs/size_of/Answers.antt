use native.Mathlib.Omega.{arith}
use Rattle.code.specs.Shape.{size}
use Rattle.code.proofs.Bounds.{size_is}
use Rattle.layout.proofs.size_of.Goals as goal

pub overflow_add-result : goal.overflow_add-result
overflow_add-result c = omega (arith, c.requires.size_most, size_is c.args.shape)

pub returns : goal.returns
unfolding size
returns c = omega arith
