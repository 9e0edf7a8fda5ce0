use mathlib.Core.Path.{◌≡◌}
use Prim.Native.Nat.{◌≤◌}
use lib.ListN.{length}
use Rattle.preview_lines.proofs.Slots.{PutTo}
use Rattle.preview_lines.proofs.put_slots.Given as goal

abbrev pub invariant-loop-slot : goal.invariant-loop-slot
invariant-loop-slot l =
    (l.shape.n ≤ 255)
    × (l.marks ≡ l.initial.marks)
    × (length l.work ≡ length l.initial.work)
    × PutTo l.shape l.initial.marks l.slot l.initial.page l.page l.initial.safe l.safe
