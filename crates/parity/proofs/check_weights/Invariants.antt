use lib.ListN.{replicate}
use Rattle.algebra.proofs.Filling.{Filled}
use Rattle.parity.proofs.Rows.{entry}
use Rattle.parity.proofs.check_weights.Given as goal

abbrev pub invariant-loop-i : goal.invariant-loop-i
invariant-loop-i l = Filled (entry l.field l.l l.factors l.terms l.own) l.i (replicate 16 0) l.row
