use Prim.Native.Nat.{◌+◌, ◌*◌}
use lib.ListN.{drop}
use Rattle.strip_settling.proofs.Settling.{Settled}
use Rattle.strip_settling.proofs.settle_columns.Given as goal

abbrev pub invariant-loop-c : goal.invariant-loop-c
invariant-loop-c l = Settled l.shape l.l l.words l.marks l.c l.answer (drop (l.shape.n * (l.shape.k + 1)) l.room)
