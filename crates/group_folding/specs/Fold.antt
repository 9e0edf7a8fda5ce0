-- Message strips folded into the coefficients of the groups, on tiles of 256 columns. Assumes nothing: these are definitions.
--   message_symbol s l ms m d   == message symbol m of column d, 0 past the message and past the strips' end
--   coefficient s l ms d j b    == coefficient b of the local polynomial of group j in column d
--   PlaceLoaded .. z           == tile a shows the message strip at place b of block a, in the columns from c on
--   PlaceFolded .. a z         == a has become z: coefficient b of every group is written, all other coefficients unchanged
--   Folded s l ms c b z         == tile j r + i shows coefficient i of group j in the columns from c on, i below b
use Rattle.std.specs.Prelude.{◌≡◌, ◌≢◌, cond, List, ℕ, ◌+◌, ◌*◌, ◌<◌, ltb, length}
use Rattle.code.specs.declared.Shape.{Shape}
use Rattle.code.specs.Shape.{groups}
use Rattle.lanes.specs.Lane.{shown}
use Rattle.tile_strips.specs.Tile.{padded}
use Rattle.tile_evaluation.specs.Step.{value}
use Rattle.group_plans.specs.Plan.{blocks, level_at}

unfoldable pub message_symbol : Shape → (l : ℕ) → (messages : List ℕ) → (m d : ℕ) → ℕ
message_symbol s l ms m d = cond (ltb m s.k) (padded ms l m d) 0

unfoldable pub coefficient : Shape → (l : ℕ) → (messages : List ℕ) → (d j b : ℕ) → ℕ
coefficient s l ms d j b = value (level_at s j) (blocks s) (λ a. message_symbol s l ms (a * s.r + b) d)

abbrev pub PlaceLoaded : Shape → (l : ℕ) → (messages : List ℕ) → (c b n : ℕ) → (tiles : List ℕ) → Type 0
PlaceLoaded s l ms c b n z =
    (a t i : ℕ) → a < n → t < 8 → i < 32 → shown z (a * 256) t i ≡ message_symbol s l ms (a * s.r + b) (c + (t * 32 + i))

pub record PlaceFolded (s : Shape) (b n : ℕ) (v : ℕ → ℕ → ℕ → ℕ) (a z : List ℕ) : Type 0 where
  pub size : length z ≡ length a
  pub own : (j t i : ℕ) → j < n → t < 8 → i < 32 → shown z ((j * s.r + b) * 256) t i ≡ value (level_at s j) (blocks s) (λ e. v e t i)
  pub other : (m t i : ℕ) → ((j : ℕ) → j < n → m ≢ j * s.r + b) → t < 8 → i < 32 → shown z (m * 256) t i ≡ shown a (m * 256) t i

abbrev pub Folded : Shape → (l : ℕ) → (messages : List ℕ) → (c b : ℕ) → (coefs : List ℕ) → Type 0
Folded s l ms c b z =
    (j e t i : ℕ) → j < groups s → e < b → t < 8 → i < 32 → shown z ((j * s.r + e) * 256) t i ≡ coefficient s l ms (c + (t * 32 + i)) j e
