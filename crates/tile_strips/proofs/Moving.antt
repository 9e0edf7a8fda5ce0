-- Columns of strips moved into tiles and back. Assumes nothing.
--   loaded        the last columns copied and turned into a tile
--   full_loaded   256 columns turned into a tile
--   cleared       zeros written to a tile
--   stored        a tile turned into columns, and the last of the strip copied
--   full_stored   a tile turned into 256 columns
use mathlib.Core.Path.{◌≡◌, refl, sym, ap, ◌∙◌}
use mathlib.Core.List.{List}
use Prim.Native.Nat.{ℕ, ◌+◌, ◌*◌, ◌-◌, ◌≤◌, ◌<◌}
use native.Mathlib.Nat.{zero-add, add_assoc}
use native.Mathlib.Decide.{dec_lt}
use native.Mathlib.Omega.{arith}
use borrow.Author.Tests.{lt-ltb, le-ltb}
use lib.ListN.{replicate}
use Rattle.algebra.specs.Sequence.{at}
use Rattle.algebra.specs.Writing.{Laid}
use Rattle.algebra.proofs.At.{at_zeros}
use Rattle.algebra.proofs.Writing.{laid_at}
use Rattle.lanes.specs.Lane.{shown}
use Rattle.bit_planes.specs.Plane.{Turned}
use Rattle.bit_planes.proofs.Turning.{turned_in, turned_out}
use Rattle.tile_strips.specs.Tile.{padded, TileSet, Stored}
use Rattle.tile_strips.proofs.Showing.{shown_zero}

within : (xs : List ℕ) (l m c : ℕ) → c < l → padded xs l m c ≡ at xs (m * l + c)
unfolding padded
within xs l m c h = rw (lt-ltb c l h) refl

past : (xs : List ℕ) (l m c : ℕ) → l ≤ c → padded xs l m c ≡ 0
unfolding padded
past xs l m c h = rw (le-ltb c l h) refl

-- the last columns of a strip copied to a buffer of zeros
module _ (xs : List ℕ) (l m c : ℕ) (ys : List ℕ) (L : Laid (λ i. at xs (m * l + c + i)) 0 (l - c) (replicate 256 0) ys) where
  near : (j : ℕ) → j < l - c → at ys j ≡ at xs (m * l + c + j)
  near j h = ap (at ys) (sym (zero-add j)) ∙ laid_at L j h

  far : (j : ℕ) → l - c ≤ j → at ys j ≡ 0
  far j h = L.written.behind j (omega arith) ∙ at_zeros 256 j

  copied : (j : ℕ) → at ys j ≡ padded xs l m (c + j)
  copied j = go (dec_lt (c + j) l)
    where
      go : Dec (c + j < l) → at ys j ≡ padded xs l m (c + j)
      go (yes b) = near j (omega arith) ∙ ap (at xs) (add_assoc (m * l) c j) ∙ sym (within xs l m (c + j) b)
      go (no b) = far j (omega arith) ∙ sym (past xs l m (c + j) (omega arith))

  copied_below : ((i : ℕ) → at xs i < 256) → (j : ℕ) → at ys j < 256
  copied_below b j = go (dec_lt j (l - c))
    where
      go : Dec (j < l - c) → at ys j < 256
      go (yes h) = omega (arith, near j h, b (m * l + c + j))
      go (no h) = omega (arith, far j (omega arith))

pub loaded : (xs : List ℕ) (l m c o : ℕ) (ys a z : List ℕ) → ((i : ℕ) → at xs i < 256)
    → Laid (λ i. at xs (m * l + c + i)) 0 (l - c) (replicate 256 0) ys → Turned ys 0 o a z
    → TileSet (λ s i. padded xs l m (c + (s * 32 + i))) o a z
loaded xs l m c o ys a z b L T =
    let below = copied_below xs l m c ys L b in
    record {
      size = T.size;
      own = λ s i h k. turned_in ys 0 o a z below T s i h k ∙ ap (λ n. at ys (n + i)) (zero-add (s * 32)) ∙ copied xs l m c ys L (s * 32 + i);
      before = T.before;
      behind = T.behind;
    }

-- the place of column 32 s + i, as the record Turned names it
column : (l m c s i : ℕ) → m * l + c + s * 32 + i ≡ m * l + (c + (s * 32 + i))
column l m c s i = add_assoc (m * l + c) (s * 32) i ∙ add_assoc (m * l) c (s * 32 + i)

pub full_loaded : (xs : List ℕ) (l m c o : ℕ) (a z : List ℕ) → 256 ≤ l - c → ((i : ℕ) → at xs i < 256) → Turned xs (m * l + c) o a z
    → TileSet (λ s i. padded xs l m (c + (s * 32 + i))) o a z
full_loaded xs l m c o a z f b T =
    record {
      size = T.size;
      own = λ s i h k. turned_in xs (m * l + c) o a z b T s i h k ∙ ap (at xs) (column l m c s i) ∙ sym (within xs l m (c + (s * 32 + i)) (omega arith));
      before = T.before;
      behind = T.behind;
    }

pub cleared : (o : ℕ) (a z : List ℕ) → Laid (λ i. 0) o 256 a z → TileSet (λ s i. 0) o a z
cleared o a z L =
    let W = L.written in
    record {
      size = W.size;
      own = λ s i h l. shown_zero z o s i l (λ x b k. W.put x b k);
      before = W.before;
      behind = W.behind;
    }

module _ (xs : List ℕ) (o l m c : ℕ) (n ys a z : List ℕ) (f : l - c < 256) (below : (i : ℕ) → at z i < 256) where
  pub stored : Turned xs o 0 n ys → Laid (λ i. at ys (0 + i)) (m * l + c) (l - c) a z → Stored xs o l m c a z
  stored T L =
      let W = L.written in
      record { size = W.size; own = own; before = W.before; behind = λ x h. W.behind x (omega arith) }
    where
      own : (s i : ℕ) → s < 8 → i < 32 → c + (s * 32 + i) < l → at z (m * l + (c + (s * 32 + i))) ≡ shown xs o s i
      own s i h k d =
          let p = m * l + (c + (s * 32 + i)) in
          let q : at z p ≡ at ys (0 + s * 32 + i) =
          ap (at z) (sym (add_assoc (m * l) c (s * 32 + i))) ∙ laid_at L (s * 32 + i) (omega arith) ∙ ap (at ys) (sym (add_assoc 0 (s * 32) i)) in
          q ∙ turned_out xs o 0 n ys T s i h k (omega (arith, q, below p))

pub full_stored : (xs : List ℕ) (o l m c : ℕ) (a z : List ℕ) → 256 ≤ l - c → ((i : ℕ) → at z i < 256) → Turned xs o (m * l + c) a z
    → Stored xs o l m c a z
full_stored xs o l m c a z f b T =
    record {
      size = T.size;
      own = λ s i h k d. ap (at z) (sym (column l m c s i)) ∙ turned_out xs o (m * l + c) a z T s i h k (b (m * l + c + s * 32 + i));
      before = T.before;
      behind = λ x h. T.behind x (omega arith);
    }
