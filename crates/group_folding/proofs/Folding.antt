-- Coefficients of the groups, place by place. Assumes nothing.
--   symbol_here, symbol_past        a message symbol, and what is past the message
--   set_as                          a tile of other symbols that are the same
--   loaded_more                     one more tile of a message strip
--   coefs_room                      the tiles of the coefficients are fewer than 256
--   value_same                      the values of polynomials with the same coefficients
--   folded_more                     one group more of a place
--   place_more                      one place more of every group
use mathlib.Core.Path.{◌≡◌, refl, sym, ap, ◌∙◌}
use mathlib.Core.Logic.{◌≢◌, inl}
use mathlib.Core.Bool.{cond}
use mathlib.Core.List.{List}
use Prim.Native.Nat.{ℕ, suc, ◌+◌, ◌*◌, ◌≤◌, ◌<◌}
use native.Mathlib.Nat.{mul-le-mul_left}
use native.Mathlib.Decide.{ℕ_discrete, dec_lt}
use native.Mathlib.Omega.{arith}
use lib.Dec.{ltb, leb→le, le→leb}
use Rattle.algebra.specs.Sequence.{at}
use Rattle.algebra.proofs.Booleans.{yes_true, no_false}
use Rattle.algebra.proofs.Strides.{row_step}
use Rattle.field.specs.Field.{power, times_from}
use Rattle.code.specs.declared.Shape.{Shape}
use Rattle.code.specs.Shape.{size, groups, room}
use Rattle.code.specs.Laws.{Placed}
use Rattle.code.proofs.Bounds.{size_is, room_byte}
use Rattle.tiles.proofs.Sum.{sum_same}
use Rattle.lanes.specs.Lane.{shown}
use Rattle.tile_strips.specs.Tile.{padded, TileSet}
use Rattle.tile_strips.proofs.Showing.{kept_tile, set_other}
use Rattle.strip_columns.proofs.Done.{apart}
use Rattle.tile_evaluation.specs.Step.{value, ValueWritten}
use Rattle.group_plans.specs.Plan.{blocks, level_at}
use Rattle.group_folding.specs.Fold.{message_symbol, coefficient, PlaceLoaded, PlaceFolded, Folded}

pub symbol_here : (s : Shape) (l : ℕ) (ms : List ℕ) (m d : ℕ) → m < s.k → padded ms l m d ≡ message_symbol s l ms m d
unfolding message_symbol
symbol_here s l ms m d h = ap (λ t. cond t (padded ms l m d) 0) (sym (yes_true (ltb m s.k) (le→leb (suc m) s.k h)))

pub symbol_past : (s : Shape) (l : ℕ) (ms : List ℕ) (m d : ℕ) → s.k ≤ m → 0 ≡ message_symbol s l ms m d
unfolding message_symbol
symbol_past s l ms m d h =
    ap (λ t. cond t (padded ms l m d) 0) (sym (no_false (ltb m s.k) (λ t. absurd (omega (arith, leb→le (suc m) s.k t)))))

pub set_as : (f g : ℕ → ℕ → ℕ) (o : ℕ) (a z : List ℕ) → ((t i : ℕ) → f t i ≡ g t i) → TileSet f o a z → TileSet g o a z
set_as f g o a z e T = record { size = T.size; own = λ t i h k. T.own t i h k ∙ e t i; before = T.before; behind = T.behind }

module _ (s : Shape) (l : ℕ) (ms : List ℕ) (c b : ℕ) where
  pub loaded_more : (n : ℕ) (a z : List ℕ) → PlaceLoaded s l ms c b n a
      → TileSet (λ t i. message_symbol s l ms (n * s.r + b) (c + (t * 32 + i))) (n * 256) a z → PlaceLoaded s l ms c b (n + 1) z
  loaded_more n a z L T m t i h k j = go (ℕ_discrete m n)
    where
      go : Dec (m ≡ n) → shown z (m * 256) t i ≡ message_symbol s l ms (m * s.r + b) (c + (t * 32 + i))
      go (yes e) = rw e (T.own t i k j)
      go (no e) = set_other _ (n * 256) (m * 256) a z T (inl (omega arith)) t i k j ∙ L m t i (omega arith) k j

pub coefs_room : (s : Shape) → Placed s → (j b : ℕ) → j < groups s → b < s.r → j * s.r + b < 255
unfolding room
coefs_room s P j b h k =
    let r : s.r ≤ size s = omega (arith, size_is s) in
    omega (arith, row_step j (groups s) s.r h, mul-le-mul_left (groups s) r, room_byte s P)

pub value_same : (x n : ℕ) (f g : ℕ → ℕ) → ((e : ℕ) → e < n → f e ≡ g e) → value x n f ≡ value x n g
unfolding value
value_same x n f g h =
    sum_same 0 (λ e. times_from 8 (power 1 x e) (f e)) (λ e. times_from 8 (power 1 x e) (g e)) n (λ e b. ap (times_from 8 (power 1 x e)) (h e b))

-- a tile at another place
other_tile : (x n : ℕ) (v : ℕ → ℕ → ℕ → ℕ) (q m : ℕ) (a z : List ℕ) → ValueWritten x n v (q * 256) a z → m ≢ q → (t i : ℕ) → t < 8 → i < 32
    → shown z (m * 256) t i ≡ shown a (m * 256) t i
other_tile x n v q m a z W e t i h k = kept_tile (m * 256) a z (λ p f g. go p f g (dec_lt m q)) t i h k
  where
    go : (p : ℕ) → m * 256 ≤ p → p < m * 256 + 256 → Dec (m < q) → at z p ≡ at a p
    go p f g (yes y) = W.before p (omega arith)
    go p f g (no y) = W.behind p (omega arith)

module _ (s : Shape) (b : ℕ) (v : ℕ → ℕ → ℕ → ℕ) where
  pub folded_more : (n : ℕ) (w : ℕ → ℕ → ℕ → ℕ) (a y z : List ℕ) → 1 ≤ s.r → ((e t i : ℕ) → w e t i ≡ v e t i) → PlaceFolded s b n v a y
      → ValueWritten (level_at s n) (blocks s) w ((n * s.r + b) * 256) y z → PlaceFolded s b (n + 1) v a z
  folded_more n w a y z r e P W =
      record {
        size = W.size ∙ P.size;
        own = λ j t i h k g. go j t i h k g (ℕ_discrete j n);
        other = λ m t i f h k.
            other_tile (level_at s n) (blocks s) w (n * s.r + b) m y z W (f n (omega arith)) t i h k ∙ P.other m t i (λ j l. f j (omega arith)) h k;
      }
    where
      go : (j t i : ℕ) → j < n + 1 → t < 8 → i < 32 → Dec (j ≡ n)
          → shown z ((j * s.r + b) * 256) t i ≡ value (level_at s j) (blocks s) (λ e. v e t i)
      go j t i h k g (yes q) = rw q (W.own t i k g ∙ value_same (level_at s n) (blocks s) (λ e. w e t i) (λ e. v e t i) (λ x l. e x t i))
      go j t i h k g (no q) =
          other_tile (level_at s n) (blocks s) w (n * s.r + b) (j * s.r + b) y z W (λ f. absurd (omega (arith, row_step j n s.r (omega arith)))) t i k g
          ∙ P.own j t i (omega arith) k g

as_value : (s : Shape) (l : ℕ) (ms : List ℕ) (d j b : ℕ) → value (level_at s j) (blocks s) (λ m. message_symbol s l ms (m * s.r + b) d) ≡ coefficient s l ms d j b
unfolding coefficient
as_value s l ms d j b = refl

module _ (s : Shape) (l : ℕ) (ms : List ℕ) (c b : ℕ) where
  pub place_more : (tiles a z : List ℕ) → b < s.r → Folded s l ms c b a → PlaceLoaded s l ms c b (blocks s) tiles
      → PlaceFolded s b (groups s) (λ e. shown tiles (e * 256)) a z → Folded s l ms c (b + 1) z
  place_more tiles a z h F L P j e t i k f g d = go (ℕ_discrete e b)
    where
      go : Dec (e ≡ b) → shown z ((j * s.r + e) * 256) t i ≡ coefficient s l ms (c + (t * 32 + i)) j e
      go (yes q) =
          rw q (P.own j t i k g d
          ∙ value_same (level_at s j) (blocks s) (λ m. shown tiles (m * 256) t i) (λ m. message_symbol s l ms (m * s.r + b) (c + (t * 32 + i))) (λ m y. L m t i y g d)
          ∙ as_value s l ms (c + (t * 32 + i)) j b)
      go (no q) =
          P.other (j * s.r + e) t i (λ m y. apart s.r j e m b (omega arith) h q) g d ∙ F j e t i k (omega arith) g d
