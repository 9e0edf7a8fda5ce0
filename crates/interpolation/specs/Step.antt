-- The steps of Newton's interpolation, in rows of 256 bytes. Assumes nothing: these are definitions.
--   Shifted to a z          == z is X times the polynomial of a, in its first to coefficients
--   Multiplied f k to a z   == z is X times the polynomial of a plus k times it, in the first to coefficients; all else as it was
--   kept ms p               == the test that place p is not lost
--   Nodes f n xs            == the points of the places below n are elements of the field, all different
--   Rooms                   the rows' lengths
--   Newton f n xs ws ms i c cs ns vs rs: the places below i that are not lost are taken, c of them, and
--     cs      is a polynomial of c coefficients with the values ws at their points
--     ns      is the product of X - x over their points x
--     vs      are the values of ns at the points from i on: none of them is 0
--     rs      are the values ws there less those of cs
--   Settled                 cs and rs are so, and most places are taken, those below i
--   Agreed                  the answer of the comparison: nothing is left at the places from i on that are not lost
use Rattle.std.specs.Prelude.{◌≡◌, ◌≢◌, Bool, true, not, List, ℕ, suc, ◌+◌, ◌≤◌, ◌<◌, eqb, length}
use Rattle.algebra.specs.Sequence.{at, count}
use Rattle.field.specs.Field.{q, plus, times}
use Rattle.field.specs.Polynomial.{poly}

pub record Shifted (to : ℕ) (a z : List ℕ) : Type 0 where
  pub first : at z 0 ≡ 0
  pub next : (p : ℕ) → p < to → at z (p + 1) ≡ at a p

pub record Multiplied (f k to : ℕ) (a z : List ℕ) : Type 0 where
  pub size : length z ≡ length a
  pub first : 0 < to → at z 0 ≡ plus f 0 (times f k (at a 0))
  pub next : (p : ℕ) → suc p < to → at z (suc p) ≡ plus f (at a p) (times f k (at a (suc p)))
  pub behind : (p : ℕ) → to ≤ p → at z p ≡ at a p

abbrev pub kept : List ℕ → ℕ → Bool
kept ms p = not (eqb (at ms p) 1)

pub record Nodes (f n : ℕ) (xs : List ℕ) : Type 0 where
  pub below : (p : ℕ) → p < n → at xs p < q f
  pub differ : (i j : ℕ) → i < n → j < n → at xs i ≡ at xs j → i ≡ j

pub record Rooms (cs ns vs rs : List ℕ) : Type 0 where
  pub cs_size : length cs ≡ 256
  pub ns_size : length ns ≡ 256
  pub vs_size : length vs ≡ 256
  pub rs_size : length rs ≡ 256

pub record Newton (f n : ℕ) (xs ws ms : List ℕ) (i c : ℕ) (cs ns vs rs : List ℕ) : Type 0 where
  pub taken : c ≡ count (kept ms) i
  pub cs_below : (m : ℕ) → at cs m < q f
  pub cs_few : (m : ℕ) → c ≤ m → at cs m ≡ 0
  pub cs_passes : (p : ℕ) → p < i → at ms p ≢ 1 → poly f cs (at xs p) ≡ at ws p
  pub ns_below : (m : ℕ) → at ns m < q f
  pub ns_few : (m : ℕ) → c < m → at ns m ≡ 0
  pub ns_roots : (p : ℕ) → p < i → at ms p ≢ 1 → poly f ns (at xs p) ≡ 0
  pub vs_values : (p : ℕ) → i ≤ p → p < n → at vs p ≡ poly f ns (at xs p)
  pub vs_not_zero : (p : ℕ) → i ≤ p → p < n → at vs p ≢ 0
  pub rs_below : (p : ℕ) → i ≤ p → p < n → at rs p < q f
  pub rs_left : (p : ℕ) → i ≤ p → p < n → plus f (at rs p) (poly f cs (at xs p)) ≡ at ws p

pub record Settled (f n most : ℕ) (xs ws ms : List ℕ) (i : ℕ) (cs rs : List ℕ) : Type 0 where
  pub taken : count (kept ms) i ≡ most
  pub size : length cs ≡ 256
  pub inside : i ≤ n
  pub below : (m : ℕ) → at cs m < q f
  pub few : (m : ℕ) → most ≤ m → at cs m ≡ 0
  pub passes : (p : ℕ) → p < i → at ms p ≢ 1 → poly f cs (at xs p) ≡ at ws p
  pub rs_below : (p : ℕ) → i ≤ p → p < n → at rs p < q f
  pub left : (p : ℕ) → i ≤ p → p < n → plus f (at rs p) (poly f cs (at xs p)) ≡ at ws p

pub record Agreed (n : ℕ) (ms : List ℕ) (i : ℕ) (rs : List ℕ) (r : Bool) : Type 0 where
  pub none : r ≡ true → (p : ℕ) → i ≤ p → p < n → at ms p ≢ 1 → at rs p ≡ 0
  pub agree : ((p : ℕ) → i ≤ p → p < n → at ms p ≢ 1 → at rs p ≡ 0) → r ≡ true
