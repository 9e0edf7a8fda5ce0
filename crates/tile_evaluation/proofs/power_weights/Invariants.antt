use mathlib.Core.Path.{◌≡◌}
use Rattle.field.specs.Field.{power}
use Rattle.tile_evaluation.proofs.Weights.{Weighed}
use Rattle.tile_evaluation.proofs.power_weights.Given as goal

abbrev pub invariant-loop-e : goal.invariant-loop-e
invariant-loop-e l = (l.power ≡ power 1 l.x l.e) × Weighed l.x l.e l.weights
