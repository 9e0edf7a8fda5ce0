use native.Mathlib.Omega.{arith}
use Rattle.kernel.proofs.Roots.{times_16_is}
use Rattle.kernel.proofs.times_16.Goals as goal

pub returns : goal.returns
returns c = times_16_is c.args.x (omega arith)
