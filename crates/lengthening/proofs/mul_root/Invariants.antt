use mathlib.Core.Path.{◌≡◌}
use Rattle.algebra.specs.Sequence.{at}
use Rattle.algebra.proofs.Writing.{Writing}
use Rattle.field.specs.Field.{plus, minus, times}
use Rattle.lengthening.specs.Step.{lower}
use Rattle.lengthening.proofs.mul_root.Given as goal

abbrev pub invariant-loop-p : goal.invariant-loop-p
invariant-loop-p l =
    Writing (λ i. plus l.field (lower l.initial.coefs i) (times l.field (minus l.field 0 l.y) (at l.initial.coefs i))) 0 l.to l.p l.initial.coefs l.coefs × (l.before ≡ lower l.initial.coefs l.p)
