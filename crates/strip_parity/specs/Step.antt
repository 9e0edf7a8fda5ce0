-- Parity checks of strips of mates. Assumes nothing: these are definitions.
--   zero_strip s p l xs c    == the sum of check c is 0 in each of the l columns of the mates' strips xs
--   columns_pass s p l xs    == so for every check
--   zero_row f r l rs xs c   == the sums by row c of the matrix rs are 0 in each of the l columns of r strips xs
--   CheckRows s p n rs      == the first n rows of rs are the weights of the first n checks, with zeros after them
use Rattle.std.specs.Prelude.{◌≡◌, Bool, List, ℕ, ◌<◌, length}
use Rattle.algebra.specs.Sequence.{all_below, every}
use Rattle.field.specs.Polynomial.{weighed}
use Rattle.code.specs.declared.Shape.{Shape}
use Rattle.code.specs.Shape.{mates}
use Rattle.weights.specs.Weights.{sixteen}
use Rattle.row_reduction.specs.Matrix.{matrix_row, Elements}
use Rattle.parity.specs.Parity.{checks, check_weights}

unfoldable pub zero_strip : Shape → (slot l : ℕ) → (strips : List ℕ) → (check : ℕ) → Bool
zero_strip s p l xs c = all_below 1 (weighed s.field (check_weights s p c) (length (mates s p)) l xs)

unfoldable pub columns_pass : Shape → (slot l : ℕ) → (strips : List ℕ) → Bool
columns_pass s p l xs = every (zero_strip s p l xs) (checks s p)

unfoldable pub zero_row : (f r l : ℕ) → (rows strips : List ℕ) → (row : ℕ) → Bool
zero_row f r l rs xs c = all_below 1 (weighed f (matrix_row rs c) r l xs)

pub record CheckRows (s : Shape) (p n : ℕ) (rs : List ℕ) : Type 0 where
  pub size : length rs ≡ 256
  pub below : Elements s.field rs
  pub row : (c : ℕ) → c < n → matrix_row rs c ≡ sixteen (check_weights s p c)
