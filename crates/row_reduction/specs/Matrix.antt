-- A matrix in a buffer, sixteen entries a row, and what the reduction of its rows keeps. Assumes nothing: these are definitions.
--   matrix_row xs c          == row c of the matrix xs: the sixteen entries from place 16 × c on
--   Annuls f n r xs ys       == the sum of entry times value over the first r columns is 0 for rows 0 to n - 1
--   Reduced f n a z          == a has become z: elements of the field, and the same values are annulled
use Rattle.std.specs.Prelude.{◌≡◌, List, ℕ, ◌+◌, ◌*◌, ◌≤◌, ◌<◌, length, take}
use Rattle.algebra.specs.Sequence.{at, tabulate}
use Rattle.field.specs.Field.{q}
use Rattle.field.specs.Polynomial.{dotted}

unfoldable pub matrix_row : List ℕ → ℕ → List ℕ
matrix_row xs c = tabulate (λ i. at xs (c * 16 + i)) 16

unfoldable pub Annuls : (f n r : ℕ) → (xs ys : List ℕ) → Type 0
Annuls f n r xs ys = (c : ℕ) → c < n → dotted f (take r (matrix_row xs c)) ys ≡ 0

abbrev pub Elements : (f : ℕ) → List ℕ → Type 0
Elements f xs = (i : ℕ) → at xs i < q f

pub record Reduced (f n : ℕ) (a z : List ℕ) : Type 0 where
  pub size : length z ≡ length a
  pub below : Elements f z
  pub on : (r : ℕ) (ys : List ℕ) → r ≤ 16 → Elements f ys → Annuls f n r a ys → Annuls f n r z ys
  pub back : (r : ℕ) (ys : List ℕ) → r ≤ 16 → Elements f ys → Annuls f n r z ys → Annuls f n r a ys
