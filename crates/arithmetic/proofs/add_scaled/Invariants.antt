use Prim.Native.Nat.{◌-◌}
use Rattle.algebra.specs.Sequence.{at}
use Rattle.algebra.proofs.Writing.{Writing}
use Rattle.field.specs.Field.{plus, times}
use Rattle.arithmetic.proofs.add_scaled.Given as goal

abbrev pub invariant-loop-p : goal.invariant-loop-p
invariant-loop-p l = Writing (λ i. plus l.field (at l.initial.target i) (times l.field l.c (at l.source i))) l.from l.to l.p l.initial.target l.target
