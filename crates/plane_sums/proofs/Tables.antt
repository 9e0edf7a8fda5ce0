-- Tables of sums. Assumes nothing.
--   Doubling xs m o h y a z   == a has become z: y entries from h on are written
--   doubling_more
--   Table xs m o n z          == entry e of the 2^n tiles from place o on shows the sums of the first n tiles of xs from m on that e chooses
--   table_none, table_more, sums_written
use mathlib.Core.Path.{◌≡◌, refl, sym, ap, ap₂, ◌∙◌}
use mathlib.Core.List.{List}
use Prim.Native.Nat.{ℕ, suc, ◌+◌, ◌*◌, ◌-◌, ◌^◌, ◌≤◌, ◌<◌}
use native.Mathlib.Nat.{add_assoc}
use native.Mathlib.Decide.{ℕ_discrete, dec_lt}
use native.Mathlib.Omega.{arith}
use lib.ListN.{length}
use Rattle.algebra.specs.Sequence.{at}
use Rattle.algebra.specs.Writing.{Laid}
use Rattle.algebra.proofs.Writing.{laid_at}
use Rattle.field.specs.Field.{xor_from, pick}
use Rattle.field.proofs.Xor.{xor_comm}
use Rattle.field.proofs.Byte.{◌⊕◌, ⊕_zero}
use Rattle.tiles.specs.Step.{sum}
use Rattle.tiles.proofs.Sum.{sum_none, sum_more, sum_same, sum_below}
use Rattle.lanes.specs.Lane.{bit, lane, shown}
use Rattle.plane_sums.specs.Step.{SumsWritten}
use Rattle.plane_sums.specs.Level.{Doubled}
use Rattle.plane_sums.proofs.Bits.{bit_above, bit_top, bit_low}
use Rattle.plane_sums.proofs.Lanes.{symbol_sum}
use Rattle.plane_sums.proofs.Shown.{lane_at, shown_same, shown_zero}

-- the sum of two tiles, written at o
laid_shown : (xs a z : List ℕ) (m b o : ℕ) → Laid (λ i. xor_from 8 (at xs (m + i)) (at a (b + i))) o 256 a z
    → (s i : ℕ) → s < 8 → i < 32 → shown z o s i ≡ shown a b s i ⊕ shown xs m s i
laid_shown xs a z m b o L s i h l =
    symbol_sum (lane a (b + i)) (lane xs (m + i)) (lane z (o + i)) s h
    (λ p k. lane_at z (o + i) p k ∙ ap (at z) (add_assoc o i (p * 32)) ∙ laid_at L (i + p * 32) (omega arith)
    ∙ xor_comm 8 (at xs (m + (i + p * 32))) (at a (b + (i + p * 32)))
    ∙ ap₂ ◌⊕◌ (ap (at a) (sym (add_assoc b i (p * 32))) ∙ sym (lane_at a (b + i) p k)) (ap (at xs) (sym (add_assoc m i (p * 32))) ∙ sym (lane_at xs (m + i) p k)))

-- a tile that is unchanged
kept_shown : (a z : List ℕ) (o s i : ℕ) → i < 32 → ((x : ℕ) → o ≤ x → x < o + 256 → at z x ≡ at a x) → shown z o s i ≡ shown a o s i
kept_shown a z o s i l e = shown_same z a o o s i i (λ p h. e (o + i + p * 32) (omega arith) (omega arith))

pub record Doubling (xs : List ℕ) (m o h y : ℕ) (a z : List ℕ) : Type 0 where
  pub size : length z ≡ length a
  pub own : (x s i : ℕ) → x < y → s < 8 → i < 32 → shown z (o + (h + x) * 256) s i ≡ xor_from 8 (shown a (o + x * 256) s i) (shown xs m s i)
  pub before : (x : ℕ) → x < o + h * 256 → at z x ≡ at a x
  pub behind : (x : ℕ) → o + (h + y) * 256 ≤ x → at z x ≡ at a x

pub doubling_more : (xs : List ℕ) (m o h y : ℕ) (a b z : List ℕ) → y < h
    → Laid (λ i. xor_from 8 (at xs (m + i)) (at b (o + y * 256 + i))) (o + (h + y) * 256) 256 b z
    → Doubling xs m o h y a b → Doubling xs m o h (y + 1) a z
doubling_more xs m o h y a b z k L D =
    record {
      size = L.written.size ∙ D.size;
      own = λ x s i l r q. go x s i l r q (ℕ_discrete x y);
      before = λ x l. L.written.before x (omega arith) ∙ D.before x l;
      behind = λ x l. L.written.behind x (omega arith) ∙ D.behind x (omega arith);
    }
  where
    go : (x s i : ℕ) → x < y + 1 → s < 8 → i < 32 → Dec (x ≡ y) → shown z (o + (h + x) * 256) s i ≡ shown a (o + x * 256) s i ⊕ shown xs m s i
    go x s i l r q (yes e) =
        rw e
        (laid_shown xs b z m (o + y * 256) (o + (h + y) * 256) L s i r q
        ∙ ap (λ n. n ⊕ shown xs m s i) (kept_shown a b (o + y * 256) s i q (λ p u v. D.before p (omega arith))))
    go x s i l r q (no e) =
        kept_shown b z (o + (h + x) * 256) s i q (λ p u v. L.written.before p (omega arith)) ∙ D.own x s i (omega arith) r q

abbrev Table : (xs : List ℕ) → (m o n : ℕ) → (z : List ℕ) → Type 0
Table xs m o n z = (e s i : ℕ) → e < 2 ^ n → s < 8 → i < 32 → shown z (o + e * 256) s i ≡ sum 0 (λ x. pick (bit x e) (shown xs (m + x * 256) s i)) n

table_none : (xs : List ℕ) (m o : ℕ) (a z : List ℕ) → Laid (λ i. 0) o 256 a z → Table xs m o 0 z
table_none xs m o a z L e s i b h l =
    let q : e * 256 ≡ 0 = omega arith in
    shown_zero z (o + e * 256) s i (λ p k. L.written.put (o + e * 256 + i + p * 32) (omega arith) (omega arith))
    ∙ sym (sum_none 0 (λ x. pick (bit x e) (shown xs (m + x * 256) s i)))

module _ (xs : List ℕ) (m o n q : ℕ) (a z : List ℕ) (place : q ≡ m + n * 256) (D : Doubled xs q o (2 ^ n) a z) (T : Table xs m o n a)
    (s i : ℕ) (s_below : s < 8) (i_below : i < 32) where
  -- the sum that e chooses of the first k tiles
  abbrev chosen : (e k : ℕ) → ℕ
  chosen e k = sum 0 (λ x. pick (bit x e) (shown xs (m + x * 256) s i)) k

  -- an entry as before
  old : (e : ℕ) → e < 2 ^ n → shown z (o + e * 256) s i ≡ chosen e (suc n)
  old e h =
      kept_shown a z (o + e * 256) s i i_below (λ x u v. D.before x (omega arith)) ∙ T e s i h s_below i_below
      ∙ sym
      (sum_more 0 (λ x. pick (bit x e) (shown xs (m + x * 256) s i)) n ∙ ap (λ b. chosen e n ⊕ pick b (shown xs (m + n * 256) s i)) (bit_above n e h)
      ∙ ⊕_zero (sum_below (λ x. pick (bit x e) (shown xs (m + x * 256) s i)) n))

  -- an entry with the new tile
  new : (y : ℕ) → y < 2 ^ n → shown z (o + (2 ^ n + y) * 256) s i ≡ chosen (2 ^ n + y) (suc n)
  new y h =
      let e = 2 ^ n + y in
      let f : ℕ → ℕ → ℕ = λ e x. pick (bit x e) (shown xs (m + x * 256) s i) in
      D.own y s i h s_below i_below
      ∙ ap₂ ◌⊕◌
      (T y s i h s_below i_below ∙ sum_same 0 (f y) (f e) n (λ x b. ap (λ t. pick t (shown xs (m + x * 256) s i)) (sym (bit_low n x y b))))
      (ap (λ r. shown xs r s i) place ∙ ap (λ t. pick t (shown xs (m + n * 256) s i)) (sym (bit_top n y h)))
      ∙ sym (sum_more 0 (f e) n)

  table_entry : (e : ℕ) → e < 2 ^ suc n → shown z (o + e * 256) s i ≡ chosen e (suc n)
  table_entry e h = go (dec_lt e (2 ^ n))
    where
      go : Dec (e < 2 ^ n) → shown z (o + e * 256) s i ≡ chosen e (suc n)
      go (yes b) = old e b
      go (no b) =
          let q : 2 ^ n + (e - 2 ^ n) ≡ e = omega arith in
          rw q at (new (e - 2 ^ n) (omega arith))

table_more : (xs : List ℕ) (m o n q : ℕ) (a z : List ℕ) → q ≡ m + n * 256 → Doubled xs q o (2 ^ n) a z → Table xs m o n a → Table xs m o (suc n) z
table_more xs m o n q a z p D T e s i b h l = table_entry xs m o n q a z p D T s i h l e b

pub sums_written : (xs : List ℕ) (m o : ℕ) (a b c d e z : List ℕ) → Laid (λ i. 0) o 256 a b → Doubled xs m o 1 b c → Doubled xs (m + 256) o 2 c d
    → Doubled xs (m + 512) o 4 d e → Doubled xs (m + 768) o 8 e z → SumsWritten xs m o a z
sums_written xs m o a b c d e z L P Q R S =
    record {
      size = S.size ∙ R.size ∙ Q.size ∙ P.size ∙ L.written.size;
      own =
          table_more xs m o 3 (m + 768) e z refl S
          (table_more xs m o 2 (m + 512) d e refl R
          (table_more xs m o 1 (m + 256) c d refl Q (table_more xs m o 0 m b c (omega arith) P (table_none xs m o a b L))));
      before = λ x h. S.before x (omega arith) ∙ R.before x (omega arith) ∙ Q.before x (omega arith) ∙ P.before x (omega arith) ∙ L.written.before x h;
      behind = λ x h. S.behind x (omega arith) ∙ R.behind x (omega arith) ∙ Q.behind x (omega arith) ∙ P.behind x (omega arith) ∙ L.written.behind x (omega arith);
    }
