use mathlib.Core.Path.{◌≡◌}
use Prim.Native.Nat.{ℕ, ◌≤◌, ◌<◌}
use Rattle.code.specs.Shape.{members}
use Rattle.losses.proofs.Counts.{losses_to}
use Rattle.losses.proofs.first_group.Given as goal

abbrev pub invariant-loop-i : goal.invariant-loop-i
invariant-loop-i l = (l.found ≡ 255) × (l.lost ≤ l.shape.tolerance) × (l.lost ≡ losses_to l.shape l.marks l.group l.i)

abbrev pub invariant-groups : goal.invariant-groups
invariant-groups l = (l.found ≡ 255) × ((i : ℕ) → i < l.group → losses_to l.shape l.marks i (members l.shape i) ≤ l.shape.tolerance)
