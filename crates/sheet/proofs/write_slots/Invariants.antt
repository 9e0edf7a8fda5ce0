use mathlib.Core.Path.{◌≡◌}
use lib.ListN.{length}
use Rattle.sheet.specs.Step.{put_slots}
use Rattle.sheet.proofs.write_slots.Given as goal

abbrev pub invariant-loop-p : goal.invariant-loop-p
invariant-loop-p l = (length l.sheet ≡ length l.initial.sheet) × (l.sheet ≡ put_slots l.initial.sheet l.word l.marks l.p)
