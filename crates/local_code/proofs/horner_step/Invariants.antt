use Rattle.algebra.specs.Sequence.{at}
use Rattle.algebra.proofs.Filling.{Filled}
use Rattle.field.specs.Field.{plus, times}
use Rattle.local_code.proofs.horner_step.Given as goal

abbrev pub invariant-loop-i : goal.invariant-loop-i
invariant-loop-i l = Filled (λ m. plus l.field l.a (times l.field (at l.points m) (at l.initial.values m))) l.i l.initial.values l.values
