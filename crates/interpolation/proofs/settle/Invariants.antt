use Prim.Native.Nat.{◌≤◌}
use lib.ListN.{length}
use Rattle.interpolation.specs.Step.{Rooms, Newton}
use Rattle.interpolation.proofs.settle.Given as goal

abbrev pub invariant-loop-i : goal.invariant-loop-i
invariant-loop-i l =
    (l.c ≤ l.most) × Rooms l.coefs l.basis l.values l.rests × Newton l.field (length l.marks) l.points l.initial.rests l.marks l.i l.c l.coefs l.basis l.values l.rests
