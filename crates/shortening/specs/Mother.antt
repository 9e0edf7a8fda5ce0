-- The code of whole groups that a code with a short last group is a shortened code of. Assumes nothing: these are definitions.
--   mother s           its groups are whole: a slot for every place, k' = k + missing
--   Shortens s zs ms   == ms is the message of the same polynomial as the mother's message zs
use Rattle.std.specs.Prelude.{◌≡◌, true, List, ℕ, ◌+◌, ◌<◌}
use Rattle.field.specs.Field.{q}
use Rattle.code.specs.declared.Shape.{Shape}
use Rattle.code.specs.Shape.{room, missing}
use Rattle.code.specs.Codeword.{is_message, value}

abbrev pub mother : Shape → Shape
mother s =
    record { field = s.field; r = s.r; n = room s; k = s.k + missing s; wiring = s.wiring; tolerance = s.tolerance; second = s.second }

pub record Shortens (s : Shape) (zs ms : List ℕ) : Type 0 where
  pub message : is_message s ms ≡ true
  pub same : (x : ℕ) → x < q s.field → value s ms x ≡ value (mother s) zs x
