-- A tile through all levels. Assumes nothing.
--   Risen g .. n t       == every symbol of the tile t has gone from 0 through n levels
--   risen_none, risen_more, risen_written
use mathlib.Core.Path.{◌≡◌, refl, sym, ap, ◌∙◌}
use mathlib.Core.List.{List}
use Prim.Native.Nat.{ℕ, ◌+◌, ◌*◌, ◌<◌}
use native.Mathlib.Nat.{add_assoc}
use native.Mathlib.Omega.{arith}
use lib.ListN.{length, replicate}
use Rattle.algebra.specs.Sequence.{at}
use Rattle.algebra.specs.Writing.{Laid}
use Rattle.algebra.proofs.At.{at_zeros}
use Rattle.algebra.proofs.Writing.{laid_at}
use Rattle.field.specs.Field.{doubled, times_from}
use Rattle.field.proofs.Byte.{◌⊕◌}
use Rattle.tiles.specs.Step.{sum}
use Rattle.tiles.proofs.Sum.{sum_same}
use Rattle.tiles.proofs.Products.{bits_sum}
use Rattle.lanes.specs.Lane.{lane, shown}
use Rattle.plane_sums.specs.Step.{Planned, SumsOf, RowWritten}
use Rattle.plane_sums.specs.Level.{Bytes, folded, entries, Levelled}
use Rattle.plane_sums.proofs.Shown.{lane_at, shown_same, shown_zero}
use Rattle.plane_sums.proofs.Levels.{folded_none, folded_more, folded_add}
use Rattle.plane_sums.proofs.Nibbles.{entries_sum}

pub record Risen (g : ℕ) (ps : List ℕ) (m : ℕ) (ts : List ℕ) (n : ℕ) (t : List ℕ) : Type 0 where
  pub size : length t ≡ 256
  pub bytes : (i : ℕ) → i < 32 → Bytes (lane t i)
  pub own : (s i : ℕ) → s < 8 → i < 32 → shown t 0 s i ≡ folded (entries g ps m ts s i) n 0

-- a tile of 0
zero_bytes : (n i : ℕ) → Bytes (lane (replicate n 0) i)
zero_bytes n i p h = let e : at (lane (replicate n 0) i) p ≡ 0 = lane_at (replicate n 0) i p h ∙ at_zeros n (i + p * 32) in omega arith

module _ (g : ℕ) (ps : List ℕ) (m : ℕ) (ts : List ℕ) where
  -- the entries of the levels from n on
  later : (n j s i l : ℕ) → j ≡ n * g → entries g ps (m + j) ts s i l ≡ entries g ps m ts s i (n + l)
  later n j s i l e =
      sum_same 0 (λ h. shown ts (at ps (m + j + h + l * g) * 256 + h * 4096) s i) (λ h. shown ts (at ps (m + h + (n + l) * g) * 256 + h * 4096) s i) g
      (λ h b. let q : m + j + h + l * g ≡ m + h + (n + l) * g = omega arith in ap (λ a. shown ts (at ps a * 256 + h * 4096) s i) q)

  -- all levels: weight times symbol
  all_levels : (w : ℕ → ℕ) (v : ℕ → ℕ → ℕ → ℕ)
      → ((x : ℕ) → x < g * 4 → w x < 256) → ((x s i : ℕ) → x < g * 4 → v x s i < 256)
      → ((h : ℕ) → h < g → Planned ps (m + h) g (λ x. w (h * 4 + x))) → ((h : ℕ) → h < g → SumsOf ts (h * 4096) (λ x. v (h * 4 + x)))
      → (s i : ℕ) → s < 8 → i < 32 → folded (entries g ps m ts s i) 8 0 ≡ sum 0 (λ x. times_from 8 (w x) (v x s i)) (g * 4)
  all_levels w v w_below v_below P S s i h l =
      let e : ℕ → ℕ = entries g ps m ts s i in
      bits_sum w (λ x. v x s i) (g * 4) w_below (λ x b. v_below x s i b) (λ n. folded e n 0) (folded_none e 0)
      (λ n b. folded_more e n 0 ∙ ap (λ a. doubled (folded e n 0) ⊕ a) (entries_sum g ps m ts w v P S s i h l n b))

module _ {g : ℕ} {ps : List ℕ} {m : ℕ} {ts : List ℕ} where
  pub risen_none : Risen g ps m ts 0 (replicate 256 0)
  risen_none =
      record {
        size = refl;
        bytes = λ i h. zero_bytes 256 i;
        own = λ s i h l. shown_zero (replicate 256 0) 0 s i (λ p b. at_zeros 256 (0 + i + p * 32)) ∙ sym (folded_none (entries g ps m ts s i) 0);
      }

  pub risen_more : {k n j r : ℕ} {t z : List ℕ} → j ≡ n * g → n + k ≡ r → Levelled g k ps (m + j) ts t z → Risen g ps m ts n t → Risen g ps m ts r z
  risen_more {k} {n} {j} {r} {t} {z} e d L R =
      record {
        size = L.size ∙ R.size;
        bytes = L.bytes;
        own = λ s i h b. L.own s i h b ∙ ap (folded (entries g ps (m + j) ts s i) k) (R.own s i h b)
            ∙ folded_add (entries g ps m ts s i) (entries g ps (m + j) ts s i) n k 0 (λ l. later g ps m ts n j s i l e)
            ∙ ap (λ q. folded (entries g ps m ts s i) q 0) d;
      }

  pub risen_written : {n : ℕ} {t : List ℕ} {o : ℕ} {a z : List ℕ} → n ≡ 8 → Risen g ps m ts n t → Laid (λ i. at t (0 + i)) o 256 a z → RowWritten g ps m ts o a z
  risen_written {n} {t} {o} {a} {z} e R L =
      record {
        size = L.written.size;
        own = λ w v wb vb P S s i h l.
            shown_same z t o 0 s i i
            (λ p b. ap (at z) (add_assoc o i (p * 32)) ∙ laid_at L (i + p * 32) (omega arith) ∙ ap (at t) (sym (add_assoc 0 i (p * 32))))
            ∙ R.own s i h l ∙ ap (λ q. folded (entries g ps m ts s i) q 0) e ∙ all_levels g ps m ts w v wb vb P S s i h l;
        before = L.written.before;
        behind = L.written.behind;
      }
