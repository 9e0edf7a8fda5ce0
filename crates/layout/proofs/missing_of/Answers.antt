use mathlib.Core.Path.{ap}
use Prim.Native.Nat.{◌-◌}
use native.Mathlib.Omega.{arith}
use Rattle.code.specs.Shape.{missing}
use Rattle.code.proofs.Places.{n_room}
use Rattle.layout.proofs.missing_of.Goals as goal

pub overflow_sub-result : goal.overflow_sub-result
overflow_sub-result c = omega (arith, c.room_of.ensures.0, n_room c.args.shape c.requires)

pub returns : goal.returns
unfolding missing
returns c = ap (λ m. m - c.args.shape.n) c.room_of.ensures.0
