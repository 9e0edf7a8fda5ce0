use mathlib.Core.Path.{ap₂}
use Prim.Native.Nat.{◌*◌}
use native.Mathlib.Omega.{arith}
use Rattle.code.specs.Shape.{room}
use Rattle.code.proofs.Bounds.{room_byte}
use Rattle.layout.proofs.room_of.Goals as goal

pub overflow_mul-result : goal.overflow_mul-result
unfolding room
overflow_mul-result c = omega (arith, ap₂ ◌*◌ c.groups_of.ensures c.size_of.ensures, room_byte c.args.shape c.requires)

pub returns : goal.returns
unfolding room
returns c = let is = ap₂ ◌*◌ c.groups_of.ensures c.size_of.ensures in (is, omega (arith, is, room_byte c.args.shape c.requires))
