use mathlib.Core.Path.{sym}
use Rattle.code.proofs.Accepted.{mending_of}
use Rattle.binding.proofs.weights_into.Goals as goal

pub weights_with-requires : goal.weights_with-requires
weights_with-requires c e = rw c.single.ensures (mending_of c.args.code (sym c.in_ok-accepted.ensures))
