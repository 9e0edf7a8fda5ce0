-- Bytes into bit planes and back. Assumes nothing: these are definitions.
--   Transposed v z      == bit s of entry p of z is bit p of entry s of v
--   Turned xs m o a z   == a has become z: from place o on the bit transpose of the 256 bytes of xs from place m on, all else unchanged
use Rattle.std.specs.Prelude.{◌≡◌, List, ℕ, ◌+◌, ◌*◌, ◌≤◌, ◌<◌, length}
use Rattle.algebra.specs.Sequence.{at}
use Rattle.lanes.specs.Lane.{bit}

abbrev pub Transposed : (v z : List ℕ) → Type 0
Transposed v z = (p s : ℕ) → p < 8 → s < 8 → bit s (at z p) ≡ bit p (at v s)

pub record Turned (xs : List ℕ) (m o : ℕ) (a z : List ℕ) : Type 0 where
  pub size : length z ≡ length a
  pub bits : (p i s : ℕ) → p < 8 → i < 32 → s < 8 → bit s (at z (o + p * 32 + i)) ≡ bit p (at xs (m + s * 32 + i))
  pub before : (x : ℕ) → x < o → at z x ≡ at a x
  pub behind : (x : ℕ) → o + 256 ≤ x → at z x ≡ at a x
