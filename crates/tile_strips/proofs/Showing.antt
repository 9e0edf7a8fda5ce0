-- What a tile shows. Assumes nothing.
--   shown_below   it shows bytes
--   shown_zero    a tile of zeros shows 0
--   kept_tile     a tile whose bytes are unchanged shows the same
--   set_other     so does a tile beside one that was set
use mathlib.Core.Path.{◌≡◌, sym, ap, ◌∙◌}
use mathlib.Core.Logic.{◌⊎◌, inl, inr}
use mathlib.Core.List.{List}
use Prim.Native.Nat.{ℕ, zero, suc, ◌+◌, ◌*◌, ◌%◌, ◌^◌, ◌≤◌, ◌<◌}
use native.Mathlib.Nat.{zero-div}
use native.Mathlib.Omega.{arith}
use Rattle.algebra.specs.Sequence.{at}
use Rattle.lanes.specs.Lane.{bit, gathered, lane, shown}
use Rattle.lanes.proofs.Gathering.{gathered_same, lane_at}
use Rattle.tile_strips.specs.Tile.{TileSet}

gathered_below : (f : ℕ → ℕ) (n : ℕ) → ((p : ℕ) → f p < 2) → gathered f n < 2 ^ n
unfolding gathered
gathered_below f zero h = omega arith
gathered_below f (suc n) h = omega (arith, gathered_below (λ p. f (suc p)) n (λ p. h (suc p)), h 0)

pub shown_below : (xs : List ℕ) (o s i : ℕ) → shown xs o s i < 256
shown_below xs o s i = gathered_below (λ p. bit s (at (lane xs (o + i)) p)) 8 (λ p. omega arith)

pub shown_zero : (z : List ℕ) (o s i : ℕ) → i < 32 → ((x : ℕ) → o ≤ x → x < o + 256 → at z x ≡ 0) → shown z o s i ≡ 0
unfolding gathered
shown_zero z o s i l e =
    gathered_same (λ p. bit s (at (lane z (o + i)) p)) (λ p. 0) 8
    (λ p h. ap (bit s) (lane_at z (o + i) p h ∙ e (o + i + p * 32) (omega arith) (omega arith)) ∙ ap (λ n. n % 2) (zero-div (2 ^ s)))

pub kept_tile : (p : ℕ) (a z : List ℕ) → ((x : ℕ) → p ≤ x → x < p + 256 → at z x ≡ at a x) → (s i : ℕ) → s < 8 → i < 32
    → shown z p s i ≡ shown a p s i
kept_tile p a z e s i h l =
    gathered_same (λ k. bit s (at (lane z (p + i)) k)) (λ k. bit s (at (lane a (p + i)) k)) 8
    (λ k b. ap (bit s) (lane_at z (p + i) k b ∙ e (p + i + k * 32) (omega arith) (omega arith) ∙ sym (lane_at a (p + i) k b)))

pub set_other : (v : ℕ → ℕ → ℕ) (o p : ℕ) (a z : List ℕ) → TileSet v o a z → (p + 256 ≤ o) ⊎ (o + 256 ≤ p) → (s i : ℕ) → s < 8 → i < 32
    → shown z p s i ≡ shown a p s i
set_other v o p a z T (inl k) = kept_tile p a z (λ x h l. T.before x (omega arith))
set_other v o p a z T (inr k) = kept_tile p a z (λ x h l. T.behind x (omega arith))
