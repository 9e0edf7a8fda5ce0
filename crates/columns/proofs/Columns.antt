-- Columns of strips laid end to end, and sums over them, strip by strip. Assumes nothing.
--   length_column, at_column
--   column_alone  the one column of strips of length 1
--   column_below  symbols of strips that are below a number are so in every column
--   sums_none     no strip yet: every sum is 0
--   sums_more     one strip more
--   sums_all      all strips: the sums of weight times symbol
--   weighed_first    the sums by the first r weights alone
use mathlib.Core.Path.{◌≡◌, sym, ap, ap₂, ◌∙◌}
use mathlib.Core.Bool.{true}
use mathlib.Core.List.{List}
use Prim.Native.Nat.{ℕ, ◌+◌, ◌*◌, ◌≤◌, ◌<◌}
use native.Mathlib.Omega.{arith}
use lib.Arith.{digits_lt}
use lib.Dec.{T}
use lib.ListN.{length, take, replicate, length-replicate}
use lib.Seq.{take-length, length-take-le, get_or-take}
use Rattle.algebra.specs.Sequence.{at, tabulate, column, all_below}
use Rattle.algebra.proofs.Booleans.{yes_true}
use Rattle.algebra.proofs.Below.{all_below_at, all_below_intro}
use Rattle.algebra.proofs.At.{at_zeros}
use Rattle.algebra.proofs.Tabulate.{length_tabulate, at_tabulate, tabulate_is, tabulate_same}
use Rattle.field.specs.Field.{plus, times}
use Rattle.field.specs.Polynomial.{dotted, weighed}
use Rattle.field.proofs.Products.{dotted_none, dotted_last, dotted_stop}

module _ (r l : ℕ) (xs : List ℕ) (i : ℕ) where
  pub length_column : length (column r l i xs) ≡ r
  unfolding column
  length_column = length_tabulate (λ m. at xs (m * l + i)) r

  pub at_column : (m : ℕ) → m < r → at (column r l i xs) m ≡ at xs (m * l + i)
  unfolding column
  at_column m b = at_tabulate (λ m. at xs (m * l + i)) 0 r m b

pub column_alone : (r l : ℕ) (xs : List ℕ) → l ≡ 1 → length xs ≡ r * l → take r xs ≡ column r l 0 xs
unfolding column
column_alone r l xs one e =
    let g : length xs ≡ r * 1 = e ∙ ap (λ n. r * n) one in
    tabulate_is (λ m. at xs (m * l + 0)) 0 r (take r xs) (length-take-le r xs (omega arith))
    (λ m b. let j : m ≡ m * 1 + 0 = omega arith in get_or-take r xs m 0 b ∙ ap (at xs) (j ∙ ap (λ n. m * n + 0) (sym one)))

pub column_below : (r l : ℕ) (xs : List ℕ) (i q : ℕ) → i < l → length xs ≡ r * l → T (all_below q xs) → all_below q (column r l i xs) ≡ true
column_below r l xs i q h e t = yes_true (all_below q c) (all_below_intro q c (λ m b. entry m (omega (arith, length_column r l xs i))))
  where
    c : List ℕ
    c = column r l i xs

    entry : (m : ℕ) → m < r → at c m < q
    entry m b = rw (at_column r l xs i m b) (all_below_at q xs t (m * l + i) (omega (arith, digits_lt b h)))

-- the sum over column i of the first j strips
abbrev pub sum_of : (f : ℕ) → (ws : List ℕ) → (r l : ℕ) → (xs : List ℕ) → (j i : ℕ) → ℕ
sum_of f ws r l xs j i = dotted f (take j ws) (take j (column r l i xs))

module _ (f : ℕ) (ws : List ℕ) (r l : ℕ) (xs : List ℕ) where
  pub sums_none : replicate l 0 ≡ tabulate (sum_of f ws r l xs 0) l
  sums_none =
      tabulate_is (sum_of f ws r l xs 0) 0 l (replicate l 0) (length-replicate {A = ℕ} l 0)
      (λ i b. at_zeros l i ∙ dotted_none f ws (column r l i xs))

  pub sums_more : (j : ℕ) → j < r → r ≤ length ws → (ys : List ℕ) → ys ≡ tabulate (sum_of f ws r l xs j) l
      → tabulate (λ i. plus f (at ys i) (times f (at ws j) (at xs (j * l + i)))) l ≡ tabulate (sum_of f ws r l xs (j + 1)) l
  sums_more j b h ys e =
      tabulate_same 0 (λ i. plus f (at ys i) (times f (at ws j) (at xs (j * l + i)))) (sum_of f ws r l xs (j + 1)) l
      (λ i k.
      ap₂ (λ y x. plus f y (times f (at ws j) x)) (ap (λ zs. at zs i) e ∙ at_tabulate (sum_of f ws r l xs j) 0 l i k) (sym (at_column r l xs i j b))
      ∙ dotted_last f j ws (column r l i xs) (omega arith) (omega (arith, length_column r l xs i)))

  pub sums_all : r ≤ length ws → tabulate (sum_of f ws r l xs r) l ≡ weighed f ws r l xs
  sums_all h =
      tabulate_same 0 (sum_of f ws r l xs r) (λ i. dotted f (take r ws) (column r l i xs)) l
      (λ i k. dotted_stop f r (take r ws) (column r l i xs) (omega (arith, length-take-le r ws h)))

pub weighed_first : (f : ℕ) (ws : List ℕ) (r l : ℕ) (xs : List ℕ) → r ≤ length ws → weighed f (take r ws) (length (take r ws)) l xs ≡ weighed f ws r l xs
weighed_first f ws r l xs h = ap₂ (λ v n. tabulate (λ i. dotted f v (column n l i xs)) l) (take-length (take r ws)) (length-take-le r ws h)
