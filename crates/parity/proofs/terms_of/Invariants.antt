use Prim.Native.Nat.{◌≤◌}
use Rattle.parity.proofs.Rows.{Upto}
use Rattle.parity.proofs.terms_of.Given as goal

abbrev pub invariant-loop-i : goal.invariant-loop-i
invariant-loop-i l = (b : l.n ≤ 16) → Upto l.shape l.slot l.n b l.i l.terms
