use mathlib.Core.Path.{◌≡◌}
use Prim.Native.Nat.{◌+◌, ◌*◌}
use lib.ListN.{length}
use Rattle.code.specs.Shape.{size}
use Rattle.fitting.specs.Step.{Pointed}
use Rattle.fitting.proofs.fill_group.Given as goal

abbrev pub invariant-loop-i : goal.invariant-loop-i
invariant-loop-i l = (length l.points ≡ 256) × Pointed l.shape (l.group * size l.shape + l.i) l.points
