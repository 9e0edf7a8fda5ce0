use Prim.Native.Nat.{◌-◌}
use lib.ListN.{drop}
use Rattle.lengthening.proofs.Tails.{Tailed}
use Rattle.lengthening.proofs.tail_of.Given as goal

abbrev pub invariant-loop-i : goal.invariant-loop-i
invariant-loop-i l = Tailed l.shape (drop l.lead l.message) l.i (l.shape.r - l.i) l.coefs
