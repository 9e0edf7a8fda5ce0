-- Levels of a tile, lane by lane. Assumes nothing.
--   folded_none, folded_more, folded_add     no level, one level more, levels after levels
--   within                                   an entry's lanes are within its table
--   SumLane ps m ts i n z                    == the lane z has the sums of lane i of the entries of n tables
--   sum_lane_none, sum_lane_more
--   level_entries                            the entries of a level
--   Levelling f n a z                        == the tile a has become z: the lanes below n have the symbols f, the others are unchanged
--   Raised g k .. a i v                      == the lane v has the symbols of lane i of the tile a after k levels
--   levelling_more, raised_none, raised_more
use mathlib.Core.Path.{◌≡◌, refl, sym, ap, ap₂, ◌∙◌}
use mathlib.Core.Logic.{◌≢◌}
use mathlib.Core.List.{List}
use Prim.Native.Nat.{ℕ, zero, suc, ◌+◌, ◌*◌, ◌≤◌, ◌<◌}
use native.Mathlib.Nat.{zero-add, add-zero, add-suc, le_refl}
use Rattle.std.proofs.Common.{add-one}
use native.Mathlib.Decide.{ℕ_discrete}
use native.Mathlib.Omega.{arith}
use lib.ListN.{length, replicate}
use Rattle.algebra.specs.Sequence.{at}
use Rattle.algebra.proofs.At.{at_zeros}
use Rattle.algebra.proofs.Strides.{row_step}
use Rattle.field.specs.Field.{doubled}
use Rattle.field.proofs.Byte.{◌⊕◌}
use Rattle.tiles.specs.Step.{sum}
use Rattle.tiles.proofs.Sum.{sum_none, sum_more, sum_same}
use Rattle.lanes.specs.Lane.{lane, symbol_at, shown, PutLane}
use Rattle.plane_sums.specs.Level.{Bytes, Added, Next, folded, entries}
use Rattle.plane_sums.proofs.Shown.{lane_at, shown_same, symbol_zero, put_symbol, put_other}

pub folded_none : (e : ℕ → ℕ) (x : ℕ) → folded e 0 x ≡ x
unfolding folded
folded_none e x = refl

pub folded_more : (e : ℕ → ℕ) (n x : ℕ) → folded e (suc n) x ≡ doubled (folded e n x) ⊕ e n
unfolding folded
folded_more e n x = refl

pub folded_add : (e d : ℕ → ℕ) (m n x : ℕ) → ((l : ℕ) → d l ≡ e (m + l)) → folded d n (folded e m x) ≡ folded e (m + n) x
folded_add e d m zero x h = folded_none d (folded e m x) ∙ ap (λ k. folded e k x) (sym (add-zero m))
folded_add e d m (suc n) x h =
    folded_more d n (folded e m x) ∙ ap₂ (λ a b. doubled a ⊕ b) (folded_add e d m n x h) (h n)
    ∙ sym (ap (λ k. folded e k x) (add-suc m n) ∙ folded_more e (m + n) x)

pub within : (x h i g n : ℕ) → x < 16 → h < g → i < 32 → g * 4096 ≤ n → x * 256 + h * 4096 + i + 224 < n
within x h i g n b k l m = omega (arith, row_step h g 4096 k)

-- lane i of the sum of the entries of n tables
pub record SumLane (ps : List ℕ) (m : ℕ) (ts : List ℕ) (i n : ℕ) (z : List ℕ) : Type 0 where
  pub bytes : Bytes z
  pub own : (s : ℕ) → s < 8 → symbol_at z s ≡ sum 0 (λ h. shown ts (at ps (m + h) * 256 + h * 4096) s i) n

module _ (ps : List ℕ) (m : ℕ) (ts : List ℕ) (i : ℕ) where
  pub sum_lane_none : SumLane ps m ts i 0 (replicate 8 0)
  sum_lane_none =
      record {
        bytes = λ p h. rw (at_zeros 8 p) (omega arith);
        own = λ s h. symbol_zero 8 s ∙ sym (sum_none 0 (λ h. shown ts (at ps (m + h) * 256 + h * 4096) s i));
      }

  pub sum_lane_more : (n : ℕ) (a e z : List ℕ) → e ≡ lane ts (at ps (m + n) * 256 + n * 4096 + i) → Added a e z → SumLane ps m ts i n a → SumLane ps m ts i (n + 1) z
  sum_lane_more n a e z q A S =
      record {
        bytes = A.bytes;
        own = λ s h. let F : ℕ → ℕ = λ h. shown ts (at ps (m + h) * 256 + h * 4096) s i in
            A.own s h ∙ ap₂ ◌⊕◌ (S.own s h) (ap (λ l. symbol_at l s) q) ∙ sym (rw add-one (sum_more 0 F n));
      }

  -- the entries of level k
  pub level_entries : (g k q s : ℕ) → q ≡ m + k * g → sum 0 (λ h. shown ts (at ps (q + h) * 256 + h * 4096) s i) g ≡ entries g ps m ts s i k
  level_entries g k q s e =
      sum_same 0 (λ h. shown ts (at ps (q + h) * 256 + h * 4096) s i) (λ h. shown ts (at ps (m + h + k * g) * 256 + h * 4096) s i) g
      (λ h b. let r : q + h ≡ m + h + k * g = omega arith in ap (λ n. shown ts (at ps n * 256 + h * 4096) s i) r)

pub record Levelling (f : ℕ → ℕ → ℕ) (n : ℕ) (a z : List ℕ) : Type 0 where
  pub size : length z ≡ length a
  pub bytes : (i : ℕ) → i < 32 → Bytes (lane z i)
  pub done : (s i : ℕ) → s < 8 → i < n → i < 32 → shown z 0 s i ≡ f s i
  pub rest : (s i : ℕ) → n ≤ i → i < 32 → shown z 0 s i ≡ shown a 0 s i

-- lane i of the tile a after k levels
pub record Raised (g k : ℕ) (ps : List ℕ) (m : ℕ) (ts a : List ℕ) (i : ℕ) (v : List ℕ) : Type 0 where
  pub bytes : Bytes v
  pub own : (s : ℕ) → s < 8 → symbol_at v s ≡ folded (entries g ps m ts s i) k (shown a 0 s i)

module _ (g : ℕ) (ps : List ℕ) (m : ℕ) (ts a : List ℕ) (i : ℕ) where
  pub raised_none : (f : ℕ → ℕ → ℕ) (y v : List ℕ) → i < 32 → v ≡ lane y i → Levelling f i a y → Raised g 0 ps m ts a i v
  raised_none f y v h e L =
      record {
        bytes = rw e (L.bytes i h);
        own = λ s b. ap (λ l. symbol_at l s) e ∙ ap (λ o. symbol_at (lane y o) s) (sym (zero-add i)) ∙ L.rest s i (le_refl i) h
            ∙ sym (folded_none (entries g ps m ts s i) (shown a 0 s i));
      }

  pub raised_more : (k : ℕ) (v d z : List ℕ) → ((s : ℕ) → s < 8 → symbol_at d s ≡ entries g ps m ts s i k) → Next v d z
      → Raised g k ps m ts a i v → Raised g (suc k) ps m ts a i z
  raised_more k v d z e N R =
      record {
        bytes = N.bytes;
        own = λ s h. N.own s h ∙ ap₂ (λ x y. doubled x ⊕ y) (R.own s h) (e s h) ∙ sym (folded_more (entries g ps m ts s i) k (shown a 0 s i));
      }

module _ (f : ℕ → ℕ → ℕ) (n : ℕ) (v a y z : List ℕ) (h : n < 32) (P : PutLane v n y z) where
  kept : (s j : ℕ) → j < 32 → j ≢ n → shown z 0 s j ≡ shown y 0 s j
  kept s j l k =
      shown_same z y 0 0 s j j
      (λ p b. ap (λ o. at z (o + p * 32)) (zero-add j) ∙ put_other v n y z j p P h l k ∙ sym (ap (λ o. at y (o + p * 32)) (zero-add j)))

  pub levelling_more : Bytes v → ((s : ℕ) → s < 8 → symbol_at v s ≡ f s n) → Levelling f n a y → Levelling f (n + 1) a z
  levelling_more b e L =
      record {
        size = P.size ∙ L.size;
        bytes = λ i l. byte i l (ℕ_discrete i n);
        done = λ s i l k g. go s i l k g (ℕ_discrete i n);
        rest = λ s i l k. kept s i k (λ q. omega arith) ∙ L.rest s i (omega arith) k;
      }
    where
      byte : (i : ℕ) → i < 32 → Dec (i ≡ n) → Bytes (lane z i)
      byte i l (yes q) p k = rw (q, lane_at z n p k, P.own p k) (b p k)
      byte i l (no q) p k = rw (lane_at z i p k ∙ put_other v n y z i p P h l q ∙ sym (lane_at y i p k)) (L.bytes i l p k)

      go : (s i : ℕ) → s < 8 → i < n + 1 → i < 32 → Dec (i ≡ n) → shown z 0 s i ≡ f s i
      go s i l k g (yes q) = ap (λ o. symbol_at (lane z o) s) (zero-add i ∙ q) ∙ put_symbol v n y z s P ∙ e s l ∙ ap (f s) (sym q)
      go s i l k g (no q) = kept s i g q ∙ L.done s i l (omega arith) g
