-- What the private functions write. Assumes nothing: these are definitions.
--   Bytes v                  == the lane v has bytes
--   Added v w z              == the lane z has the sums of the symbols of v and w
--   Next v e z               == the lane z has the doubles of the symbols of v, plus those of e
--   FourAdded ts a b c d z  == the lane z has the sums of the symbols of the lanes of ts at a, b, c and d
--   folded e n x             == x after n levels: each doubles it, and adds the next of e 0, e 1, ..
--   entries g ps m ts s i l  == the sum, at column 32 s + i, of the entries that the plan has from place m on for level l, one of each of g tables
--   Levelled g n .. a z      == the tile a has become z: every symbol has gone through n levels
--   Doubled xs m o h a z     == a has become z: the entries h to 2 h - 1 of the table at o are those below h plus the tile of xs at m, all else unchanged
use Rattle.std.specs.Prelude.{◌≡◌, List, ℕ, zero, suc, ◌+◌, ◌*◌, ◌≤◌, ◌<◌, length}
use Rattle.algebra.specs.Sequence.{at}
use Rattle.field.specs.Field.{xor_from, doubled}
use Rattle.tiles.specs.Step.{sum}
use Rattle.lanes.specs.Lane.{lane, symbol_at, shown}

abbrev pub Bytes : (lane : List ℕ) → Type 0
Bytes v = (p : ℕ) → p < 8 → at v p < 256

pub record Added (v w z : List ℕ) : Type 0 where
  pub bytes : Bytes z
  pub own : (s : ℕ) → s < 8 → symbol_at z s ≡ xor_from 8 (symbol_at v s) (symbol_at w s)

pub record Next (v e z : List ℕ) : Type 0 where
  pub bytes : Bytes z
  pub own : (s : ℕ) → s < 8 → symbol_at z s ≡ xor_from 8 (doubled (symbol_at v s)) (symbol_at e s)

pub record FourAdded (table : List ℕ) (a b c d : ℕ) (z : List ℕ) : Type 0 where
  pub bytes : Bytes z
  pub own : (s : ℕ) → s < 8
      → symbol_at z s
      ≡ xor_from 8 (xor_from 8 (symbol_at (lane table a) s) (symbol_at (lane table b) s)) (xor_from 8 (symbol_at (lane table c) s) (symbol_at (lane table d) s))

unfoldable pub folded : (ℕ → ℕ) → (n x : ℕ) → ℕ
folded e zero x = x
folded e (suc n) x = xor_from 8 (doubled (folded e n x)) (e n)

abbrev pub entries : (g : ℕ) → (plan : List ℕ) → (m : ℕ) → (table : List ℕ) → (s i l : ℕ) → ℕ
entries g ps m ts s i l = sum 0 (λ h. shown ts (at ps (m + h + l * g) * 256 + h * 4096) s i) g

pub record Levelled (g n : ℕ) (plan : List ℕ) (m : ℕ) (table a z : List ℕ) : Type 0 where
  pub size : length z ≡ length a
  pub bytes : (i : ℕ) → i < 32 → Bytes (lane z i)
  pub own : (s i : ℕ) → s < 8 → i < 32 → shown z 0 s i ≡ folded (entries g plan m table s i) n (shown a 0 s i)

pub record Doubled (xs : List ℕ) (m o h : ℕ) (a z : List ℕ) : Type 0 where
  pub size : length z ≡ length a
  pub own : (y s i : ℕ) → y < h → s < 8 → i < 32 → shown z (o + (h + y) * 256) s i ≡ xor_from 8 (shown a (o + y * 256) s i) (shown xs m s i)
  pub before : (x : ℕ) → x < o + h * 256 → at z x ≡ at a x
  pub behind : (x : ℕ) → o + (h + h) * 256 ≤ x → at z x ≡ at a x
