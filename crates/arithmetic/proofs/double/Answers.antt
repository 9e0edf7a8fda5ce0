use native.Mathlib.Omega.{arith}
use Rattle.arithmetic.proofs.Doubling.{double_is}
use Rattle.arithmetic.proofs.double.Goals as goal

pub returns : goal.returns
returns c = double_is c.args.x (omega arith)
