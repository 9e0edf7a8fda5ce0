-- Tiles of strips that lie behind each other: 256 columns from column c on. Assumes nothing: these are definitions.
--   padded xs l m c         == the symbol of column c of strip m of l symbols, 0 past the strip's end
--   width l c               == how many of the 256 columns from c on a strip of l symbols has
--   TileSet v o a z        == a has become z: the tile at o shows v s i in column 32 s + i, all else unchanged
--   Stored xs o l m c a z   == a has become z: columns c to c + width - 1 of strip m are those of the tile at o of xs, all else unchanged
use Rattle.std.specs.Prelude.{◌≡◌, cond, List, ℕ, ◌+◌, ◌*◌, ◌-◌, ◌≤◌, ◌<◌, min, ltb, length}
use Rattle.algebra.specs.Sequence.{at}
use Rattle.lanes.specs.Lane.{shown}

unfoldable pub padded : (strips : List ℕ) → (l m c : ℕ) → ℕ
padded xs l m c = cond (ltb c l) (at xs (m * l + c)) 0

abbrev pub width : (l c : ℕ) → ℕ
width l c = min 256 (l - c)

pub record TileSet (v : ℕ → ℕ → ℕ) (o : ℕ) (a z : List ℕ) : Type 0 where
  pub size : length z ≡ length a
  pub own : (s i : ℕ) → s < 8 → i < 32 → shown z o s i ≡ v s i
  pub before : (x : ℕ) → x < o → at z x ≡ at a x
  pub behind : (x : ℕ) → o + 256 ≤ x → at z x ≡ at a x

pub record Stored (xs : List ℕ) (o l m c : ℕ) (a z : List ℕ) : Type 0 where
  pub size : length z ≡ length a
  pub own : (s i : ℕ) → s < 8 → i < 32 → c + (s * 32 + i) < l → at z (m * l + (c + (s * 32 + i))) ≡ shown xs o s i
  pub before : (x : ℕ) → x < m * l + c → at z x ≡ at a x
  pub behind : (x : ℕ) → m * l + c + width l c ≤ x → at z x ≡ at a x
