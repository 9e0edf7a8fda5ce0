-- A tile of columns, of any width, row by row of the plan. Assumes nothing.
--   row_added, row_added_none, row_added_more, row_added_first    the first strips of a row added to a tile
--   Held n xs os ns c m t          == the tile t of n columns from c on holds their values after m rows
--   held_first, held_next          after one row, and after one more
--   held_size, held_doubled        its length
--   held_tiled                     after all, copied
use mathlib.Core.Path.{◌≡◌, refl, sym, ap, ap₂, ◌∙◌}
use mathlib.Core.List.{List}
use Prim.Native.Nat.{ℕ, suc, ◌+◌, ◌*◌, ◌≤◌, ◌<◌}
use native.Mathlib.Nat.{zero-add, add-zero, add_assoc}
use native.Mathlib.Numerals.{add-one}
use native.Mathlib.Omega.{arith}
use lib.ListN.{length}
use Rattle.algebra.specs.Sequence.{at, tabulate}
use Rattle.algebra.specs.Writing.{Laid}
use Rattle.algebra.proofs.Tabulate.{tabulate_is, tabulate_same, length_table, at_table}
use Rattle.algebra.proofs.Writing.{laid_at, laid_same}
use Rattle.field.specs.Field.{xor_from, doubled}
use Rattle.field.proofs.Byte.{◌⊕◌, zero_⊕}
use Rattle.tiles.specs.Step.{sum, row_symbol, horner, Tiled}
use Rattle.tiles.proofs.Sum.{sum_none, sum_more}
use Rattle.tiles.proofs.Products.{horner_none, horner_more}

-- a tile of n columns from c on with the first strips of row m row_added, to the values b
module _ (xs os : List ℕ) (m c : ℕ) (b : ℕ → ℕ) (n : ℕ) where
  abbrev pub row_added : ℕ → ℕ → ℕ
  row_added k i = sum (b i) (row_symbol xs os m (c + i)) k

  pub row_added_none : (t : List ℕ) → length t ≡ n → ((i : ℕ) → i < n → at t i ≡ b i) → t ≡ tabulate (row_added 0) n
  row_added_none t s e = tabulate_is (row_added 0) 0 n t s (λ i h. e i h ∙ sym (sum_none (b i) (row_symbol xs os m (c + i))))

  pub row_added_more : (k : ℕ) (y z : List ℕ) → y ≡ tabulate (row_added k) n
      → z ≡ tabulate (λ i. xor_from 8 (at y i) (at xs (at os (m * 16 + k) + c + i))) (length y) → z ≡ tabulate (row_added (k + 1)) n
  row_added_more k y z p q =
      q ∙ ap (tabulate (λ i. xor_from 8 (at y i) (at xs (at os (m * 16 + k) + c + i)))) (length_table (row_added k) n y p)
      ∙ tabulate_same 0 (λ i. xor_from 8 (at y i) (at xs (at os (m * 16 + k) + c + i))) (row_added (k + 1)) n
      (λ i h. ap₂ (xor_from 8) (at_table (row_added k) n y p i h) (ap (at xs) (add_assoc (at os (m * 16 + k)) c i))
      ∙ sym (ap (sum (b i) (row_symbol xs os m (c + i))) (add-one k) ∙ sum_more (b i) (row_symbol xs os m (c + i)) k))

-- the first strip written to a tile
pub row_added_first : (xs os : List ℕ) (m c : ℕ) (t z : List ℕ) → ((i : ℕ) → at xs i < 256) → Laid (λ i. at xs (at os (m * 16) + c + i)) 0 (length t) t z
    → z ≡ tabulate (row_added xs os m c (λ i. 0) (length t) 1) (length t)
row_added_first xs os m c t z small C =
    tabulate_is (row_added xs os m c (λ i. 0) (length t) 1) 0 (length t) z C.written.size
    (λ i h. let e : at os (m * 16 + 0) + (c + i) ≡ at os (m * 16) + c + i = ap (λ n. at os n + (c + i)) (add-zero (m * 16)) ∙ sym (add_assoc (at os (m * 16)) c i) in
    ap (at z) (sym (zero-add i)) ∙ laid_at C i h
    ∙ sym (sum_more 0 (row_symbol xs os m (c + i)) 0 ∙ ap₂ ◌⊕◌ (sum_none 0 (row_symbol xs os m (c + i))) (ap (at xs) e) ∙ zero_⊕ (small (at os (m * 16) + c + i))))

module _ (xs os ns : List ℕ) (c n : ℕ) where
  -- row m row_added to a tile of the doubled values
  next : (m : ℕ) (y z : List ℕ) → length y ≡ n → ((i : ℕ) → i < n → at y i ≡ doubled (horner xs os ns (c + i) m))
      → z ≡ tabulate (λ i. sum (at y i) (row_symbol xs os m (c + i)) (at ns m)) (length y)
      → z ≡ tabulate (λ i. horner xs os ns (c + i) (suc m)) n
  next m y z s d q =
      q ∙ ap (tabulate (λ i. sum (at y i) (row_symbol xs os m (c + i)) (at ns m))) s
      ∙ tabulate_same 0 (λ i. sum (at y i) (row_symbol xs os m (c + i)) (at ns m)) (λ i. horner xs os ns (c + i) (suc m)) n
      (λ i h. ap (λ a. sum a (row_symbol xs os m (c + i)) (at ns m)) (d i h) ∙ sym (horner_more xs os ns (c + i) m))

-- a tile of n columns from c on after some rows: each of its entries is its column's value
pub record Held (n : ℕ) (xs os ns : List ℕ) (c m : ℕ) (t : List ℕ) : Type 0 where
  pub most : m ≤ 8
  pub values : t ≡ tabulate (λ i. horner xs os ns (c + i) m) n

module _ {n : ℕ} {xs os ns : List ℕ} {c : ℕ} where
  pub held_first : {z : List ℕ} → z ≡ tabulate (λ i. sum 0 (row_symbol xs os 0 (c + i)) (at ns 0)) n → Held n xs os ns c 1 z
  held_first q =
      let d : doubled 0 ≡ 0 = unfold doubled in refl in
      record {
        most = omega arith;
        values =
            q ∙ tabulate_same 0 (λ i. sum 0 (row_symbol xs os 0 (c + i)) (at ns 0)) (λ i. horner xs os ns (c + i) 1) n
            (λ i h. sym (horner_more xs os ns (c + i) 0 ∙ ap (λ a. sum a (row_symbol xs os 0 (c + i)) (at ns 0)) (ap doubled (horner_none xs os ns (c + i)) ∙ d)));
      }

  pub held_size : {m : ℕ} {t : List ℕ} → Held n xs os ns c m t → length t ≡ n
  held_size {m} {t} H = length_table (λ i. horner xs os ns (c + i) m) n t H.values

  pub held_doubled : {m : ℕ} {x y : List ℕ} → Held n xs os ns c m x → y ≡ tabulate (λ i. doubled (at x i)) (length x) → length y ≡ n
  held_doubled {m} {x} {y} H q = length_table (λ i. doubled (at x i)) (length x) y q ∙ held_size H

  pub held_next : {m : ℕ} {x y z : List ℕ} → m < 8 → Held n xs os ns c m x → y ≡ tabulate (λ i. doubled (at x i)) (length x)
      → ((b : ℕ → ℕ) → y ≡ tabulate (row_added xs os m c b (length y) 0) (length y) → z ≡ tabulate (row_added xs os m c b (length y) (at ns m)) (length y))
      → Held n xs os ns c (m + 1) z
  held_next {m} {x} {y} {z} b H q e =
      record {
        most = omega arith;
        values = next xs os ns c n m y z (held_doubled H q)
            (λ i h. at_table (λ i. doubled (at x i)) (length x) y q i (omega (arith, held_size H)) ∙ ap doubled (at_table (λ i. horner xs os ns (c + i) m) n x H.values i h))
            (e (at y) (row_added_none xs os m c (at y) (length y) y refl (λ i h. refl)))
            ∙ ap (λ k. tabulate (λ i. horner xs os ns (c + i) k) n) (sym (add-one m));
      }

  -- all rows done and copied
  pub held_tiled : {m : ℕ} {t a z : List ℕ} → 8 ≤ m → Held n xs os ns c m t → Laid (λ i. at t (0 + i)) c n a z → Tiled n xs os ns c a z
  held_tiled {m} {t} b H L =
      let e : m ≡ 8 = omega (arith, H.most) in
      laid_same (λ i h. ap (at t) (zero-add i) ∙ at_table (λ i. horner xs os ns (c + i) m) n t H.values i h ∙ ap (horner xs os ns (c + i)) e) L
