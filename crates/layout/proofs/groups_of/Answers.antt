use mathlib.Core.Path.{ap}
use Prim.Native.Nat.{◌+◌, ◌-◌, ◌/◌}
use native.Mathlib.Omega.{arith}
use Rattle.code.specs.Shape.{ceiling, groups}
use Rattle.code.proofs.Places.{size_least}
use Rattle.code.proofs.Bounds.{n_most}
use Rattle.layout.proofs.groups_of.Goals as goal

pub overflow_add-result : goal.overflow_add-result
overflow_add-result c = omega (arith, c.size_of-size.ensures, c.requires.size_most, n_most c.args.shape c.requires)

pub nonzero_div-result : goal.nonzero_div-result
nonzero_div-result c = omega (arith, c.size_of-size.ensures, size_least c.args.shape c.requires)

pub returns : goal.returns
unfolding groups ceiling
returns c = ap (λ t. (c.args.shape.n + t - 1) / t) c.size_of-size.ensures
