use Prim.Native.Nat.{◌+◌}
use Rattle.algebra.specs.Sequence.{at}
use Rattle.algebra.specs.Writing.{Laid}
use Rattle.field.specs.Field.{xor_from}
use Rattle.plane_sums.proofs.add_to.Given as goal

abbrev pub invariant-loop-i : goal.invariant-loop-i
invariant-loop-i l = Laid (λ i. xor_from 8 (at l.tiles (l.a + i)) (at l.initial.table (l.b + i))) l.o l.i l.initial.table l.table
