use Prim.Native.Nat.{◌+◌}
use Rattle.algebra.specs.Sequence.{at}
use Rattle.algebra.proofs.Writing.{Writing}
use Rattle.field.specs.Field.{plus, times}
use Rattle.interpolation.proofs.combine.Given as goal

abbrev pub invariant-loop-p : goal.invariant-loop-p
invariant-loop-p l = Writing (λ i. plus l.field (at l.shifted i) (times l.field l.k (at l.shifted (i + 1)))) 0 l.to l.p l.initial.target l.target
