-- Rows of one width that lie behind each other. Assumes nothing.
--   row_step    row i ends where row j starts, or before
use Prim.Native.Nat.{ℕ, ◌+◌, ◌*◌, ◌≤◌, ◌<◌}
use native.Mathlib.Nat.{mul-le-mul_right, suc-mul}

pub row_step : (i j w : ℕ) → i < j → i * w + w ≤ j * w
row_step i j w h = rw suc-mul at (mul-le-mul_right w h)
