use Rattle.std.proofs.Common.{◌≡◌, ◌≤◌, arith, ap, length-take}
use Rattle.field.specs.Field.{q}
use Rattle.code.specs.declared.Shape.{Shape}
use Rattle.code.specs.Laws.{Placed}
use Rattle.code.proofs.Places.{n_room}
use Rattle.class_sheet.proofs.put_message.Goals as goal

-- a shape over thirteen has twelve slots at the most
twelve : (s : Shape) → s.field ≡ 0 → Placed s → s.n ≤ 12
unfolding q
twelve s f P = omega (arith, n_room s P, P.room_most, ap q f)

pub slice_bounds-codeword-end : goal.slice_bounds-codeword-end
slice_bounds-codeword-end g c = twelve c.args.shape c.requires.1 c.requires.0.plain.family.placed

pub slice_bounds-front-end : goal.slice_bounds-front-end
slice_bounds-front-end g c = simp (length-take) (omega (arith, twelve c.args.shape c.requires.1 c.requires.0.plain.family.placed))
