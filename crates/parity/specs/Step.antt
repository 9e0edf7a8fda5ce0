-- The terms of the checks, as the private steps keep them. Assumes nothing: these are definitions.
--   OwnTerms s p n o xs   == the n entries from place o on are the terms of checks 0 to n - 1 at the point of place p
--   Terms s p n xs         == so from place 16 × i on for mate i of slot p, and from place 256 on for the slot itself
use Rattle.std.specs.Prelude.{◌≡◌, List, ℕ, ◌+◌, ◌*◌, ◌<◌, length}
use Rattle.algebra.specs.Sequence.{at}
use Rattle.code.specs.declared.Shape.{Shape}
use Rattle.code.specs.Shape.{point, mates}
use Rattle.parity.specs.Parity.{term}

abbrev pub OwnTerms : Shape → (place n o : ℕ) → List ℕ → Type 0
OwnTerms s p n o xs = (l : ℕ) → l < n → at xs (o + l) ≡ term s l (point s p)

pub record Terms (s : Shape) (p n : ℕ) (xs : List ℕ) : Type 0 where
  pub mate : (i : ℕ) → i < length (mates s p) → OwnTerms s (at (mates s p) i) n (i * 16) xs
  pub own : OwnTerms s p n 256 xs
