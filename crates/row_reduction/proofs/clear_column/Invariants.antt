use Rattle.row_reduction.specs.Matrix.{Elements, Reduced}
use Rattle.row_reduction.proofs.clear_column.Given as goal

abbrev pub invariant-loop-a : goal.invariant-loop-a
invariant-loop-a l = Elements l.field l.initial.rows → Reduced l.field l.n l.initial.rows l.rows
