use Rattle.arithmetic.proofs.Bits.{Bits}
use Rattle.arithmetic.proofs.byte_product.Given as goal

abbrev pub invariant-loop-i : goal.invariant-loop-i
invariant-loop-i l = Bits l.a l.b l.sum l.multiple l.i
