-- A stretch of a buffer written anew. Assumes nothing: these are definitions.
--   Written g from to a z == the buffer a has become z: g's values at the places from `from` up to `to`, all else as it was
--   Laid h d n a z        == the same of n values h 0, h 1, .. from place d on
use Rattle.std.specs.Prelude.{◌≡◌, List, ℕ, ◌+◌, ◌-◌, ◌≤◌, ◌<◌, length}
use Rattle.algebra.specs.Sequence.{at}

pub record Written (g : ℕ → ℕ) (from to : ℕ) (a z : List ℕ) : Type 0 where
  pub size : length z ≡ length a
  pub put : (p : ℕ) → from ≤ p → p < to → at z p ≡ g p
  pub before : (p : ℕ) → p < from → at z p ≡ at a p
  pub behind : (p : ℕ) → to ≤ p → at z p ≡ at a p

pub record Laid (h : ℕ → ℕ) (d n : ℕ) (a z : List ℕ) : Type 0 where
  pub written : Written (λ p. h (p - d)) d (d + n) a z
