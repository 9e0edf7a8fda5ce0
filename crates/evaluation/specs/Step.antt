-- What the steps of the evaluation write, of a row of coefficients in powers of g. Assumes nothing: these are definitions.
--   evaluated s c rs           == the values of the row's polynomial at the slots
--   GroupWritten s c rs j a z == the word a has become z: group j holds these values, the other groups are unchanged
use Rattle.std.specs.Prelude.{◌≡◌, ◌≢◌, List, ℕ, ◌<◌, length}
use Rattle.algebra.specs.Sequence.{at, tabulate}
use Rattle.code.specs.Shape.{group}
use Rattle.code.specs.declared.Shape.{Shape}
use Rattle.local_code.specs.Step.{local_value}

unfoldable pub evaluated : Shape → (c : ℕ) → (row : List ℕ) → List ℕ
evaluated s c rs = tabulate (local_value s c rs) s.n

pub record GroupWritten (s : Shape) (c : ℕ) (rs : List ℕ) (j : ℕ) (a z : List ℕ) : Type 0 where
  pub room : length z ≡ length a
  pub own : (p : ℕ) → p < s.n → group s p ≡ j → at z p ≡ local_value s c rs p
  pub other : (p : ℕ) → group s p ≢ j → at z p ≡ at a p
