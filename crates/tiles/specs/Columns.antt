-- What the kernel writes. Assumes nothing: this is a definition.
--   Combined ws r xs a z    == z is as long as a, and holds the sums of weight times symbol over the columns of the r strips xs, over bytes:
--                              every field but 0
use Rattle.std.specs.Prelude.{◌≡◌, ◌≢◌, List, ℕ, length}
use Rattle.field.specs.Polynomial.{weighed}

abbrev pub Combined : (weights : List ℕ) → (r : ℕ) → (strips before after : List ℕ) → Type 0
Combined ws r xs a z = (f : ℕ) → f ≢ 0 → z ≡ weighed f ws r (length a) xs
