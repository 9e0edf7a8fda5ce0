use mathlib.Core.Path.{◌≡◌}
use Prim.Native.Nat.{◌*◌}
use lib.ListN.{length}
use Rattle.code.specs.Shape.{size}
use Rattle.fitting.specs.Step.{Pointed}
use Rattle.fitting.proofs.fill_points.Given as goal

abbrev pub invariant-loop-group : goal.invariant-loop-group
invariant-loop-group l = (length l.points ≡ 256) × Pointed l.shape (l.group * size l.shape) l.points
