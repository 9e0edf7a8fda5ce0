-- A tile: 256 columns of a strip of bytes as eight bit planes of 32 bytes. Assumes nothing: these are definitions.
-- The standard term is bit slicing. Column 32 s + i stands at bit s of byte i of every plane, and plane p has bit p of its symbol.
--   bit s x             == bit s of x
--   gathered b n        == the number with the n bits b 0, b 1, ..
--   lane xs o           == the eight bytes at the places o, o + 32, .. o + 224, one of each plane
--   symbol_at v s       == the symbol that the lane v has at bit s
--   shown xs o s i      == the symbol of column 32 s + i of the tile at place o
--   PutLane v o a z    == a has become z: its lane at o is v, all else unchanged
use Rattle.std.specs.Prelude.{◌≡◌, ◌≢◌, List, ℕ, zero, suc, ◌+◌, ◌*◌, ◌/◌, ◌%◌, ◌^◌, ◌<◌, length}
use Rattle.algebra.specs.Sequence.{at, tabulate}

abbrev pub bit : (s x : ℕ) → ℕ
bit s x = x / 2 ^ s % 2

unfoldable pub gathered : (ℕ → ℕ) → ℕ → ℕ
gathered b zero = 0
gathered b (suc n) = b 0 + 2 * gathered (λ p. b (suc p)) n

abbrev pub lane : List ℕ → (o : ℕ) → List ℕ
lane xs o = tabulate (λ p. at xs (o + p * 32)) 8

abbrev pub symbol_at : (v : List ℕ) → (s : ℕ) → ℕ
symbol_at v s = gathered (λ p. bit s (at v p)) 8

abbrev pub shown : List ℕ → (o s i : ℕ) → ℕ
shown xs o s i = symbol_at (lane xs (o + i)) s

pub record PutLane (v : List ℕ) (o : ℕ) (a z : List ℕ) : Type 0 where
  pub size : length z ≡ length a
  pub own : (p : ℕ) → p < 8 → at z (o + p * 32) ≡ at v p
  pub other : (x : ℕ) → ((p : ℕ) → p < 8 → x ≢ o + p * 32) → at z x ≡ at a x
