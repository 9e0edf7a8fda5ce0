use mathlib.Core.Path.{◌≡◌}
use Prim.Native.Nat.{◌+◌, ◌-◌}
use Rattle.code.specs.Shape.{missing}
use Rattle.code.specs.Basis.{vanish_from}
use Rattle.generator_matrix.proofs.vanishing_at.Given as goal

abbrev pub invariant-loop-i : goal.invariant-loop-i
invariant-loop-i l = l.product ≡ vanish_from l.shape (missing l.shape - l.i) (l.shape.n + l.i) l.x
