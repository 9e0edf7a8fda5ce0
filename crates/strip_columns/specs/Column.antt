-- Strips behind each other, and a column of them written. Assumes nothing: these are definitions.
--   ColumnPut xs l c a z  == a has become z: symbol m of xs stands in column c of strip m of l symbols, all else unchanged
use Rattle.std.specs.Prelude.{◌≡◌, ◌≢◌, List, ℕ, ◌+◌, ◌*◌, ◌<◌, length}
use Rattle.algebra.specs.Sequence.{at}

pub record ColumnPut (xs : List ℕ) (l c : ℕ) (a z : List ℕ) : Type 0 where
  pub size : length z ≡ length a
  pub own : (m : ℕ) → m < length xs → at z (m * l + c) ≡ at xs m
  pub other : (x : ℕ) → ((m : ℕ) → m < length xs → x ≢ m * l + c) → at z x ≡ at a x
