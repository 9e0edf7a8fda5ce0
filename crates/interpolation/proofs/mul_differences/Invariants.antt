use Rattle.algebra.specs.Sequence.{at}
use Rattle.algebra.proofs.Writing.{Writing}
use Rattle.field.specs.Field.{minus, times}
use Rattle.interpolation.proofs.mul_differences.Given as goal

abbrev pub invariant-loop-p : goal.invariant-loop-p
invariant-loop-p l = Writing (λ i. times l.field (minus l.field (at l.points i) l.y) (at l.initial.values i)) l.from l.to l.p l.initial.values l.values
