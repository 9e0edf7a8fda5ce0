-- The work buffer that decode lends, and the calls on decode's terms. Assumes nothing: these are definitions.
--   used s          == how many bytes of work are used
--   cleared s w     == the work buffer w with its first n × (k + 1) bytes 0
use Rattle.std.specs.Prelude.{List, ◌++◌, ℕ, ◌+◌, ◌*◌, drop, replicate}
use Rattle.code.specs.declared.Shape.{Shape}

unfoldable pub used : Shape → ℕ
used s = s.n * (s.k + 1)

unfoldable pub cleared : Shape → List ℕ → List ℕ
cleared s w = replicate (used s) 0 ++ drop (used s) w
