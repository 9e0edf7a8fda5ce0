-- Sums of weight times symbol on tiles, four inputs a table. Assumes nothing: these are definitions.
-- v x s i is the symbol of column 32 s + i of input x, and w x its weight.
--   nibble m w             == bit 7 - m of the four weights w 0, .. w 3, as a number below 16
--   Planned ps m d w       == the entries of the plan at m, m + d, .. m + 7 d are the nibbles of the four weights
--   QuadPlanned .. a z    == a has become z: planned so, and all else unchanged
--   SumsOf ts o v         == entry e of the sixteen tiles from place o on shows the sums of the inputs x whose bit x of e is 1
--   SumsWritten .. a z    == a has become z: sums of the four tiles of xs from place m on, all else unchanged
--   RowWritten g .. a z   == a has become z: the tile at o shows the sums of weight times symbol over 4 g inputs, all else unchanged
use Rattle.std.specs.Prelude.{◌≡◌, ◌≢◌, List, ℕ, ◌+◌, ◌*◌, ◌-◌, ◌≤◌, ◌<◌, length}
use Rattle.algebra.specs.Sequence.{at}
use Rattle.field.specs.Field.{pick, times_from}
use Rattle.tiles.specs.Step.{sum}
use Rattle.lanes.specs.Lane.{bit, shown}

abbrev pub nibble : (m : ℕ) → (ℕ → ℕ) → ℕ
nibble m w = bit (7 - m) (w 0) + 2 * bit (7 - m) (w 1) + 4 * bit (7 - m) (w 2) + 8 * bit (7 - m) (w 3)

abbrev pub Planned : (plan : List ℕ) → (m d : ℕ) → (ℕ → ℕ) → Type 0
Planned ps m d w = (l : ℕ) → l < 8 → at ps (m + l * d) ≡ nibble l w

pub record QuadPlanned (w : ℕ → ℕ) (m d : ℕ) (a z : List ℕ) : Type 0 where
  pub size : length z ≡ length a
  pub own : Planned z m d w
  pub other : (x : ℕ) → ((l : ℕ) → l < 8 → x ≢ m + l * d) → at z x ≡ at a x

abbrev pub SumsOf : (table : List ℕ) → (o : ℕ) → (v : ℕ → ℕ → ℕ → ℕ) → Type 0
SumsOf ts o v = (e s i : ℕ) → e < 16 → s < 8 → i < 32 → shown ts (o + e * 256) s i ≡ sum 0 (λ x. pick (bit x e) (v x s i)) 4

pub record SumsWritten (xs : List ℕ) (m o : ℕ) (a z : List ℕ) : Type 0 where
  pub size : length z ≡ length a
  pub own : SumsOf z o (λ x. shown xs (m + x * 256))
  pub before : (x : ℕ) → x < o → at z x ≡ at a x
  pub behind : (x : ℕ) → o + 4096 ≤ x → at z x ≡ at a x

pub record RowWritten (g : ℕ) (plan : List ℕ) (m : ℕ) (table : List ℕ) (o : ℕ) (a z : List ℕ) : Type 0 where
  pub size : length z ≡ length a
  pub own : (w : ℕ → ℕ) (v : ℕ → ℕ → ℕ → ℕ)
      → ((x : ℕ) → x < g * 4 → w x < 256)
      → ((x s i : ℕ) → x < g * 4 → v x s i < 256)
      → ((h : ℕ) → h < g → Planned plan (m + h) g (λ x. w (h * 4 + x)))
      → ((h : ℕ) → h < g → SumsOf table (h * 4096) (λ x. v (h * 4 + x)))
      → (s i : ℕ) → s < 8 → i < 32
      → shown z o s i ≡ sum 0 (λ x. times_from 8 (w x) (v x s i)) (g * 4)
  pub before : (x : ℕ) → x < o → at z x ≡ at a x
  pub behind : (x : ℕ) → o + 256 ≤ x → at z x ≡ at a x
