-- What the private steps write. Assumes nothing: these are definitions.
--   run f x v from m      == v times x to the power m - from
--   blocks f x d e r m    == d to the power e + m div r, times x to the power m mod r
use Rattle.std.specs.Prelude.{ℕ, ◌+◌, ◌-◌, ◌/◌, ◌%◌}
use Rattle.field.specs.Field.{times, power}

unfoldable pub run : (field x v from : ℕ) → (m : ℕ) → ℕ
run f x v from m = times f v (power f x (m - from))

unfoldable pub blocks : (field x d e r : ℕ) → (m : ℕ) → ℕ
blocks f x d e r m = times f (power f d (e + m / r)) (power f x (m % r))
