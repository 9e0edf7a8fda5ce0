use Rattle.row_reduction.specs.Matrix.{Elements, Reduced}
use Rattle.row_reduction.proofs.reduce.Given as goal

abbrev pub invariant-loop-b : goal.invariant-loop-b
invariant-loop-b l = Elements l.field l.initial.rows → Reduced l.field l.n l.initial.rows l.rows
