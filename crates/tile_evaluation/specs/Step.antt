-- Values of polynomials whose coefficients are tiles. Assumes nothing: these are definitions.
-- Tables and plans are for 4 g coefficients, g = 1 or 4.
--   weight x n e             == x to the power e for e below n, else 0, over bytes
--   Nibbles ps m l           == the l entries of the plan from m on are below 16
--   PlanAt x n g ps m       == from place m on there is the plan of the first n powers of x
--   PowersPlanned .. a z    == a has become z: so from place m on, all else unchanged
--   TablesAt xs m g ts      == the tables ts are those of the 4 g tiles of xs from place m on
--   value x n v              == the sum of x to the power e times v e, e below n, over bytes
--   ValueWritten .. a z     == a has become z: the tile at o shows the values at x of the polynomial with the coefficients v, all else unchanged
use Rattle.std.specs.Prelude.{◌≡◌, cond, List, ℕ, ◌+◌, ◌*◌, ◌≤◌, ◌<◌, ltb, length}
use Rattle.algebra.specs.Sequence.{at}
use Rattle.field.specs.Field.{power, times_from}
use Rattle.tiles.specs.Step.{sum}
use Rattle.lanes.specs.Lane.{shown}
use Rattle.plane_sums.specs.Step.{Planned, SumsOf}

unfoldable pub weight : (x n e : ℕ) → ℕ
weight x n e = cond (ltb e n) (power 1 x e) 0

abbrev pub Nibbles : (plan : List ℕ) → (m l : ℕ) → Type 0
Nibbles ps m l = (i : ℕ) → i < l → at ps (m + i) < 16

abbrev pub PlanAt : (x n g : ℕ) → (plan : List ℕ) → (m : ℕ) → Type 0
PlanAt x n g ps m = ((h : ℕ) → h < g → Planned ps (m + h) g (λ e. weight x n (h * 4 + e))) × Nibbles ps m (g * 8)

pub record PowersPlanned (x n g m : ℕ) (a z : List ℕ) : Type 0 where
  pub size : length z ≡ length a
  pub own : PlanAt x n g z m
  pub before : (i : ℕ) → i < m → at z i ≡ at a i
  pub behind : (i : ℕ) → m + g * 8 ≤ i → at z i ≡ at a i

abbrev pub TablesAt : (tiles : List ℕ) → (m g : ℕ) → (table : List ℕ) → Type 0
TablesAt xs m g ts = (h : ℕ) → h < g → SumsOf ts (h * 4096) (λ e. shown xs (m + (h * 4 + e) * 256))

unfoldable pub value : (x n : ℕ) → (v : ℕ → ℕ) → ℕ
value x n v = sum 0 (λ e. times_from 8 (power 1 x e) (v e)) n

pub record ValueWritten (x n : ℕ) (v : ℕ → ℕ → ℕ → ℕ) (o : ℕ) (a z : List ℕ) : Type 0 where
  pub size : length z ≡ length a
  pub own : (s i : ℕ) → s < 8 → i < 32 → shown z o s i ≡ value x n (λ e. v e s i)
  pub before : (p : ℕ) → p < o → at z p ≡ at a p
  pub behind : (p : ℕ) → o + 256 ≤ p → at z p ≡ at a p
