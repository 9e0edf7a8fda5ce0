use lib.ListN.{take}
use Rattle.shortening.proofs.Quotient.{Quotient}
use Rattle.shortening.proofs.last_symbols.Given as goal

abbrev pub invariant-loop-i : goal.invariant-loop-i
invariant-loop-i l = Quotient l.shape (take l.shape.r l.row) l.i l.coefs
