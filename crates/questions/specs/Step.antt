-- What the tests of marks and symbols answer. Assumes nothing: these are definitions.
--   Highest n xs x            == x is one of the first n entries of xs, and none of them is above it
--   losses_from ms f t n      == how many of the n marks at f, f + t, f + 2 t .. are 1
--   symbols_from m ws ms f t n  == every kept one of the n symbols there is below m
use Rattle.std.specs.Prelude.{◌≡◌, Bool, ◌||◌, List, ℕ, ◌+◌, ◌*◌, ◌≤◌, ◌<◌, ltb}
use Rattle.algebra.specs.Sequence.{at, count, every}
use Rattle.code.specs.Decoding.{lost}

pub record Highest (n : ℕ) (xs : List ℕ) (x : ℕ) : Type 0 where
  pub place : ℕ
  pub within : place < n
  pub there : at xs place ≡ x
  pub most : (k : ℕ) → k < n → at xs k ≤ x

abbrev pub losses_from : (marks : List ℕ) → (first step number : ℕ) → ℕ
losses_from ms f t n = count (λ i. lost ms (f + i * t)) n

abbrev pub symbols_from : (most : ℕ) → (word marks : List ℕ) → (first step number : ℕ) → Bool
symbols_from m ws ms f t n = every (λ i. lost ms (f + i * t) || ltb (at ws (f + i * t)) m) n
