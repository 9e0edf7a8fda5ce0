-- Columns by the rows of the check matrix, reduced or not. Assumes nothing.
--   weights_below         the weights of a check are elements of the field
--   Upto, upto_none, upto_more, upto-done    the rows of the first checks, of one more, of all
--   rows_same             rows and reduced rows are 0 in the same columns
--   rows_pass             so they tell whether the columns pass
use mathlib.Core.Path.{◌≡◌, refl, sym, ap, ap₂, ◌∙◌}
use mathlib.Core.Bool.{true}
use mathlib.Core.List.{List}
use Prim.Native.Nat.{ℕ, ◌+◌, ◌*◌, ◌-◌, ◌≤◌, ◌<◌}
use native.Mathlib.Decide.{ℕ_discrete, dec_lt}
use native.Mathlib.Omega.{arith}
use lib.Dec.{T}
use lib.ListN.{length, take, replicate, length-replicate, length-map}
use lib.Seq.{ext_get_or}
use Rattle.algebra.specs.Sequence.{at, all_below, every, column, tabulate}
use Rattle.algebra.specs.Writing.{Laid}
use Rattle.algebra.proofs.At.{at_map, at_past, at_zeros}
use Rattle.algebra.proofs.Booleans.{so}
use Rattle.algebra.proofs.Below.{all_below_at, all_below_intro}
use Rattle.algebra.proofs.Every.{every_at, every_intro, every_same}
use Rattle.algebra.proofs.Tabulate.{length_tabulate, at_tabulate}
use Rattle.algebra.proofs.Writing.{laid_at}
use Rattle.field.specs.Field.{q}
use Rattle.field.specs.Polynomial.{dotted}
use Rattle.field.proofs.Laws.{laws}
use Rattle.field.proofs.Elem.{zero_below}
use Rattle.code.specs.declared.Shape.{Shape}
use Rattle.code.specs.Shape.{mates}
use Rattle.code.specs.Laws.{Mending}
use Rattle.code.proofs.Searching.{both_ways}
use Rattle.columns.proofs.Columns.{column_below}
use Rattle.weights.specs.Weights.{sixteen}
use Rattle.weights.proofs.Sixteen.{length_sixteen}
use Rattle.row_reduction.specs.Matrix.{matrix_row, Annuls, Elements, Reduced}
use Rattle.row_reduction.proofs.Reducing.{row_at, length_row}
use Rattle.parity.specs.Parity.{checks, check_weight, check_weights}
use Rattle.strip_parity.specs.Step.{zero_strip, columns_pass, zero_row, CheckRows}
use Rattle.strip_parity.proofs.Columns.{by_row}

-- a list whose entries are below q, and 0 behind them
elements : (f : ℕ) (xs : List ℕ) → ((i : ℕ) → i < length xs → at xs i < q f) → Elements f xs
elements f xs h i = go (dec_lt i (length xs))
  where
    go : Dec (i < length xs) → at xs i < q f
    go (yes l) = h i l
    go (no l) = rw (at_past xs i (omega arith)) (zero_below f)

pub weights_below : (s : Shape) (p c : ℕ) → Elements s.field (sixteen (check_weights s p c))
unfolding sixteen check_weights check_weight
weights_below s p c =
    elements s.field (sixteen (check_weights s p c))
    (λ i h. rw (at_tabulate (at (check_weights s p c)) 0 16 i (omega (arith, length_sixteen (check_weights s p c))))
    (elements s.field (check_weights s p c)
    (λ j l. let m : j < length (mates s p) = omega (arith, length-map (mates s p) (check_weight s p c)) in
    rw (at_map (check_weight s p c) (mates s p) j m) ((laws s.field).times_below _ _)) i))

module _ (s : Shape) (p : ℕ) where
  pub upto_none : (xs : List ℕ) → xs ≡ replicate 256 0 → CheckRows s p 0 xs
  upto_none xs e =
      record {
        size = ap length e ∙ length-replicate {A = ℕ} 256 0;
        below = λ i. rw (e, at_zeros 256 i) (zero_below s.field);
        row = λ c h. absurd (omega arith);
      }

  module _ (c o : ℕ) (row xs zs : List ℕ) (c_few : c < 16) (o_is : o ≡ c * 16) (row_is : row ≡ sixteen (check_weights s p c)) (U : CheckRows s p c xs)
      (L : Laid (λ i. at row (0 + i)) o 16 xs zs) where
    other : (j : ℕ) → j < c → matrix_row zs j ≡ matrix_row xs j
    other j h =
        ext_get_or 0 (matrix_row zs j) (matrix_row xs j) (length_row zs j ∙ sym (length_row xs j))
        (λ i l. let m : i < 16 = omega (arith, length_row zs j) in
        row_at zs j i m ∙ L.written.before (j * 16 + i) (omega arith) ∙ sym (row_at xs j i m))

    own : matrix_row zs c ≡ row
    own =
        ext_get_or 0 (matrix_row zs c) row (length_row zs c ∙ sym (ap length row_is ∙ length_sixteen (check_weights s p c)))
        (λ i l. let m : i < 16 = omega (arith, length_row zs c) in
        let z : 0 + i ≡ i = omega arith in
        row_at zs c i m ∙ ap (λ k. at zs (k + i)) (sym o_is) ∙ laid_at L i m ∙ ap (at row) z)

    stays_below : Elements s.field zs
    stays_below i = go (dec_lt i o) (dec_lt i (o + 16))
      where
        go : Dec (i < o) → Dec (i < o + 16) → at zs i < q s.field
        go (yes l) m = rw (L.written.before i l) (U.below i)
        go (no l) (yes m) = rw (L.written.put i (omega arith) m, row_is) (weights_below s p c (0 + (i - o)))
        go (no l) (no m) = rw (L.written.behind i (omega arith)) (U.below i)

    pub upto_more : CheckRows s p (c + 1) zs
    upto_more = record { size = L.written.size ∙ U.size; below = stays_below; row = λ j h. go j h (ℕ_discrete j c) }
      where
        go : (j : ℕ) → j < c + 1 → Dec (j ≡ c) → matrix_row zs j ≡ sixteen (check_weights s p j)
        go j h (yes e) = ap (matrix_row zs) e ∙ own ∙ row_is ∙ ap (λ c. sixteen (check_weights s p c)) (sym e)
        go j h (no e) = other j (omega arith) ∙ U.row j (omega arith)

-- the columns that rows annul
module _ (f n r l : ℕ) (xs : List ℕ) where
  abbrev sum : List ℕ → ℕ → ℕ → ℕ
  sum rs c i = dotted f (take r (matrix_row rs c)) (column r l i xs)

  to_annul : (rs : List ℕ) → T (every (zero_row f r l rs xs) n) → (i : ℕ) → i < l → Annuls f n r rs (column r l i xs)
  unfolding zero_row Annuls
  to_annul rs t i h c b =
      omega (
        arith,
        at_tabulate (sum rs c) 0 l i h,
        all_below_at 1 (tabulate (sum rs c) l) (every_at (zero_row f r l rs xs) n t c b) i (omega (arith, length_tabulate (sum rs c) l)),
      )

  from_annul : (rs : List ℕ) → ((i : ℕ) → i < l → Annuls f n r rs (column r l i xs)) → T (every (zero_row f r l rs xs) n)
  unfolding zero_row Annuls
  from_annul rs t =
      every_intro (zero_row f r l rs xs) n
      (λ c b. all_below_intro 1 (tabulate (sum rs c) l)
      (λ i h. let m : i < l = omega (arith, length_tabulate (sum rs c) l) in omega (arith, at_tabulate (sum rs c) 0 l i m, t i m c b)))

  pub rows_same : (rs zs : List ℕ) → Reduced f n rs zs → r ≤ 16 → ((i : ℕ) → i < l → Elements f (column r l i xs))
      → every (zero_row f r l zs xs) n ≡ every (zero_row f r l rs xs) n
  rows_same rs zs R few e =
      both_ways (every (zero_row f r l zs xs) n) (every (zero_row f r l rs xs) n)
      (λ t. from_annul rs (λ i h. R.back r (column r l i xs) few (e i h) (to_annul zs t i h)))
      (λ t. from_annul zs (λ i h. R.on r (column r l i xs) few (e i h) (to_annul rs t i h)))

module _ (s : Shape) (M : Mending s) (p : ℕ) (inside : p < s.n) (l : ℕ) (xs : List ℕ) (long : length xs ≡ length (mates s p) * l)
    (below : all_below (q s.field) xs ≡ true) where
  column_elements : (i : ℕ) → i < l → Elements s.field (column (length (mates s p)) l i xs)
  column_elements i h =
      let r = length (mates s p) in
      elements s.field (column r l i xs) (all_below_at (q s.field) (column r l i xs) (so (column_below r l xs i (q s.field) h long (so below))))

  pub rows_pass : (n r k : ℕ) (rs zs : List ℕ) → n ≡ checks s p → r ≡ length (mates s p) → r ≤ 16 → k ≡ l → CheckRows s p n rs → Reduced s.field n rs zs
      → every (zero_row s.field r k zs xs) n ≡ columns_pass s p l xs
  unfolding columns_pass zero_row
  rows_pass n r k rs zs e d few j C R =
      let f = s.field in
      ap₂ (λ r k. every (zero_row f r k zs xs) n) d j
      ∙ rows_same f n (length (mates s p)) l xs rs zs R (omega arith) column_elements
      ∙ every_same (zero_row f (length (mates s p)) l rs xs) (zero_strip s p l xs) n
      (λ c h. by_row s M p inside l xs c (length (mates s p)) (matrix_row rs c) refl (C.row c h))
      ∙ ap (every (zero_strip s p l xs)) e
