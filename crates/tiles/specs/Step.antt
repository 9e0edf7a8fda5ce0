-- Sums of chosen strips by Horner's rule over the bits of their weights. Assumes nothing: these are definitions.
-- Row m of a plan is for bit 7 - m of the weights: it lists the offsets of the strips whose weight has the bit.
--   sum a f n                   == a + f 0 + .. + f (n - 1), over bytes
--   bit m w                     == bit 7 - m of the byte w
--   horner xs os ns p m         == the value at column p after the first m rows: each is 2 times the one before, and the chosen symbols
--   PlanRow ws l os m n j      == the n offsets of row m are those of the strips below j whose weights have the row's bit
--   Planned ws l os ns j        == so for every row; the weights below j are bytes
--   Reach l total os ns         == from each offset on there are l symbols
--   Extended w o os os' ns ns'  == each row is longer by the offset o if w has the row's bit
--   Tiled n xs os ns c a z      == a with the values of the n columns from c on at place c
--   Rebuilt xs os ns c a z      == the entries below c are their columns' values
use Rattle.std.specs.Prelude.{◌≡◌, List, ℕ, zero, suc, ◌+◌, ◌*◌, ◌-◌, ◌/◌, ◌%◌, ◌^◌, ◌≤◌, ◌<◌, length}
use Rattle.algebra.specs.Sequence.{at}
use Rattle.algebra.specs.Writing.{Laid}
use Rattle.field.specs.Field.{xor_from, doubled, pick}

unfoldable pub sum : (a : ℕ) → (ℕ → ℕ) → ℕ → ℕ
sum a f zero = a
sum a f (suc n) = xor_from 8 (sum a f n) (f n)

abbrev pub bit : (m w : ℕ) → ℕ
bit m w = w / 2 ^ (7 - m) % 2

-- the symbols of column p at the offsets of row m
abbrev pub row_symbol : (xs os : List ℕ) → (m p : ℕ) → ℕ → ℕ
row_symbol xs os m p k = at xs (at os (m * 16 + k) + p)

unfoldable pub horner : (xs os ns : List ℕ) → (p m : ℕ) → ℕ
horner xs os ns p zero = 0
horner xs os ns p (suc m) = sum (doubled (horner xs os ns p m)) (row_symbol xs os m p) (at ns m)

pub record PlanRow (ws : List ℕ) (l : ℕ) (os : List ℕ) (m n j : ℕ) : Type 0 where
  pub few : n ≤ j
  pub within : (k : ℕ) → k < n → at os (m * 16 + k) + l ≤ j * l
  pub same : (g : ℕ → ℕ) → sum 0 (λ k. g (at os (m * 16 + k))) n ≡ sum 0 (λ i. pick (bit m (at ws i)) (g (i * l))) j

pub record Planned (ws : List ℕ) (l : ℕ) (os ns : List ℕ) (j : ℕ) : Type 0 where
  pub row : (m : ℕ) → m < 8 → PlanRow ws l os m (at ns m) j
  pub bytes : (i : ℕ) → i < j → at ws i < 256

pub record Reach (l total : ℕ) (os ns : List ℕ) : Type 0 where
  pub few : (m : ℕ) → m < 8 → at ns m ≤ 16
  pub within : (m k : ℕ) → m < 8 → k < at ns m → at os (m * 16 + k) + l ≤ total

pub record Longer (w o : ℕ) (os os' ns ns' : List ℕ) (m : ℕ) : Type 0 where
  pub number : at ns' m ≡ at ns m + bit m w
  pub last : at os' (m * 16 + at ns m) ≡ o
  pub kept : (k : ℕ) → k < at ns m → at os' (m * 16 + k) ≡ at os (m * 16 + k)

abbrev pub Extended : (w o : ℕ) → (os os' ns ns' : List ℕ) → Type 0
Extended w o os os' ns ns' = (m : ℕ) → m < 8 → Longer w o os os' ns ns' m

abbrev pub Tiled : (n : ℕ) → (xs os ns : List ℕ) → (c : ℕ) → (a z : List ℕ) → Type 0
Tiled n xs os ns c a z = Laid (λ i. horner xs os ns (c + i) 8) c n a z

pub record Rebuilt (xs os ns : List ℕ) (c : ℕ) (a z : List ℕ) : Type 0 where
  pub size : length z ≡ length a
  pub done : (p : ℕ) → p < c → p < length a → at z p ≡ horner xs os ns p 8
