use mathlib.Core.Path.{◌≡◌}
use lib.ListN.{length}
use Rattle.algebra.specs.Sequence.{tabulate}
use Rattle.columns.proofs.Columns.{sum_of}
use Rattle.columns.proofs.plain_columns.Given as goal

abbrev pub invariant-loop-j : goal.invariant-loop-j
invariant-loop-j l = l.output ≡ tabulate (sum_of l.field l.weights (length l.weights) l.l l.strips l.j) l.l
