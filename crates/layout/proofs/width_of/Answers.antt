use mathlib.Core.Path.{ap₂}
use Prim.Native.Nat.{◌-◌, ◌/◌}
use native.Mathlib.Omega.{arith}
use Rattle.code.proofs.Places.{size_least}
use Rattle.layout.proofs.width_of.Goals as goal

pub nonzero_div-result : goal.nonzero_div-result
nonzero_div-result c = omega (arith, c.size_of.ensures, size_least c.args.shape c.requires)

pub returns : goal.returns
returns c = ap₂ (λ o t. (o - 1) / t) c.order.ensures.0 c.size_of.ensures
