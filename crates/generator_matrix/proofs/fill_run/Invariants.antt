use mathlib.Core.Path.{◌≡◌}
use Rattle.algebra.proofs.Filling.{Filled}
use Rattle.generator_matrix.specs.Step.{run}
use Rattle.generator_matrix.proofs.fill_run.Given as goal

abbrev pub invariant-loop-entry : goal.invariant-loop-entry
invariant-loop-entry l =
    (l.value ≡ run l.field l.x l.head 0 l.entry-index) × Filled (run l.field l.x l.head 0) l.entry-index l.initial.row l.row
