-- Columns of mates' strips, check by check. Assumes nothing.
--   by_row            the sums by an array of weights are the check's
--   columns_told      some codeword has every column just where every check's strip is 0
--   columns_any       no check: some codeword has every column
--   columns_one       strips of one symbol are the mates' symbols
--   one_told          so the checks of these tell
use mathlib.Core.Path.{◌≡◌, refl, sym, ap, ap₂, ◌∙◌}
use mathlib.Core.Bool.{Bool, true, false, ◌&&◌}
use mathlib.Core.List.{List}
use Prim.Native.Nat.{ℕ, ◌+◌, ◌*◌, ◌<◌}
use native.Mathlib.Omega.{arith}
use borrow.Author.Tests.{eq-eqb}
use lib.Dec.{eqb, eqb→eq}
use lib.ListN.{length, take}
use lib.Seq.{take_all}
use Rattle.algebra.specs.Sequence.{at, all_below, every, column, tabulate}
use Rattle.algebra.proofs.Booleans.{so}
use Rattle.algebra.proofs.Below.{all_below_at, all_below_intro}
use Rattle.algebra.proofs.Every.{every_at, every_intro, every_same, every_none}
use Rattle.algebra.proofs.Tabulate.{length_tabulate, at_tabulate}
use Rattle.field.specs.Field.{q}
use Rattle.field.specs.Polynomial.{dotted, weighed}
use Rattle.code.specs.declared.Shape.{Shape}
use Rattle.code.specs.Shape.{mates}
use Rattle.code.specs.Held.{held, columns_held}
use Rattle.code.specs.Laws.{Mending, Decodable}
use Rattle.code.proofs.Accepted.{mending}
use Rattle.code.proofs.Held.{held_cong}
use Rattle.code.proofs.Searching.{both_ways}
use Rattle.columns.proofs.Columns.{length_column, at_column, column_below}
use Rattle.weights.specs.Weights.{sixteen}
use Rattle.weights.proofs.Sixteen.{take_sixteen}
use Rattle.weights.proofs.Weighing.{mates_most}
use Rattle.parity.specs.Parity.{checks, check_weights, passes}
use Rattle.parity.specs.Promise.{Symbols, ChecksTell}
use Rattle.parity.proofs.Promises.{checks_tell}
use Rattle.parity.proofs.Rows.{length_checks, passes_check}
use Rattle.strip_parity.specs.Step.{zero_strip, columns_pass}

-- tests of pairs, one way round or the other
swap : (t : ℕ → ℕ → Bool) (m n : ℕ) → every (λ i. every (t i) m) n ≡ every (λ c. every (λ i. t i c) n) m
swap t m n =
    both_ways (every (λ i. every (t i) m) n) (every (λ c. every (λ i. t i c) n) m)
    (λ h. every_intro (λ c. every (λ i. t i c) n) m (λ c b. every_intro (λ i. t i c) n (λ i d. every_at (t i) m (every_at (λ i. every (t i) m) n h i d) c b)))
    (λ h. every_intro (λ i. every (t i) m) n (λ i d. every_intro (t i) m (λ c b. every_at (λ i. t i c) n (every_at (λ c. every (λ i. t i c) n) m h c b) i d)))

-- every entry of a list of values is 0
all_zero : (f : ℕ → ℕ) (n : ℕ) → all_below 1 (tabulate f n) ≡ every (λ i. eqb (f i) 0) n
all_zero f n =
    both_ways (all_below 1 (tabulate f n)) (every (λ i. eqb (f i) 0) n)
    (λ h. every_intro (λ i. eqb (f i) 0) n
    (λ i b. so (eq-eqb (f i) 0 (omega (arith, at_tabulate f 0 n i b, all_below_at 1 (tabulate f n) h i (omega (arith, length_tabulate f n)))))))
    (λ h. all_below_intro 1 (tabulate f n)
    (λ i b. let d : i < n = omega (arith, length_tabulate f n) in
    omega (arith, at_tabulate f 0 n i d, eqb→eq (f i) 0 (every_at (λ i. eqb (f i) 0) n h i d))))

module _ (s : Shape) (M : Mending s) (p : ℕ) (inside : p < s.n) (l : ℕ) (xs : List ℕ) where
  abbrev r : ℕ
  r = length (mates s p)

  pub by_row : (c k : ℕ) (row : List ℕ) → k ≡ length (mates s p) → row ≡ sixteen (check_weights s p c)
      → all_below 1 (weighed s.field row k l xs) ≡ zero_strip s p l xs c
  unfolding zero_strip
  by_row c k row e d =
      let ws = check_weights s p c in
      let n = length_checks s M p inside c in
      ap₂ (λ (vs : List ℕ) k. all_below 1 (tabulate (λ i. dotted s.field vs (column k l i xs)) l))
      (ap₂ take e d ∙ take_sixteen ws r n (mates_most s M p inside) ∙ sym (take_all r ws (omega arith))) e

  strip_checked : (c : ℕ) → zero_strip s p l xs c ≡ every (λ i. passes_check s p (column r l i xs) c) l
  unfolding zero_strip
  strip_checked c =
      let f = s.field in
      let ws = check_weights s p c in
      all_zero (λ i. dotted f (take r ws) (column r l i xs)) l
      ∙ every_same (λ i. eqb (dotted f (take r ws) (column r l i xs)) 0) (λ i. passes_check s p (column r l i xs) c) l
      (λ i h. ap₂ (λ vs ys. eqb (dotted f vs ys) 0) (take_all r ws (omega (arith, length_checks s M p inside c)))
      (sym (take_all r (column r l i xs) (omega (arith, length_column r l xs i)))))

  pub columns_passed : every (λ i. passes s p (column r l i xs)) l ≡ columns_pass s p l xs
  unfolding passes columns_pass
  columns_passed =
      swap (λ i c. passes_check s p (column r l i xs) c) (checks s p) l
      ∙ sym (every_same (zero_strip s p l xs) (λ c. every (λ i. passes_check s p (column r l i xs) c) l) (checks s p) (λ c h. strip_checked c))

module _ (s : Shape) (D : Decodable s) (p : ℕ) (inside : p < s.n) (l : ℕ) (xs : List ℕ) (long : length xs ≡ length (mates s p) * l)
    (below : all_below (q s.field) xs ≡ true) where
  abbrev n : ℕ
  n = length (mates s p)

  column_symbols : (i : ℕ) → i < l → Symbols s p (column n l i xs)
  column_symbols i h = (
    omega (arith, length_column n l xs i),
    λ m b. all_below_at (q s.field) (column n l i xs) (so (column_below n l xs i (q s.field) h long (so below))) m (omega (arith, length_column n l xs i)),
  )

  pub columns_told : columns_held s p l xs ≡ columns_pass s p l xs
  unfolding columns_held ChecksTell
  columns_told =
      every_same (λ i. held s (mates s p) (column n l i xs)) (λ i. passes s p (column n l i xs)) l
      (λ i h. checks_tell s p (column n l i xs) D inside (column_symbols i h))
      ∙ columns_passed s (mending s D) p inside l xs

  pub columns_any : checks s p ≡ 0 → true ≡ columns_held s p l xs
  unfolding columns_pass
  columns_any e = sym (columns_told ∙ ap (every (zero_strip s p l xs)) e ∙ every_none (zero_strip s p l xs))

and_true : (b : Bool) → b && true ≡ b
and_true true = refl
and_true false = refl

-- one column
pub columns_one : (s : Shape) (p : ℕ) (xs : List ℕ) → length xs ≡ length (mates s p) * 1 → held s (mates s p) xs ≡ columns_held s p 1 xs
unfolding columns_held every
columns_one s p xs long =
    let n = length (mates s p) in
    let c = column n 1 0 xs in
    held_cong s (mates s p) xs c (λ i h. let e : i ≡ i * 1 + 0 = omega arith in ap (at xs) e ∙ sym (at_column n 1 xs 0 i h))
    ∙ sym (and_true (held s (mates s p) c))

pub one_told : (s : Shape) → Decodable s → (p : ℕ) → p < s.n → (xs : List ℕ) → length xs ≡ length (mates s p) * 1 → all_below (q s.field) xs ≡ true
    → passes s p xs ≡ columns_held s p 1 xs
unfolding ChecksTell
one_told s D p h xs long below =
    let Y : Symbols s p xs = (omega arith, λ i b. all_below_at (q s.field) xs (so below) i (omega arith)) in
    sym (checks_tell s p xs D h Y) ∙ columns_one s p xs long
