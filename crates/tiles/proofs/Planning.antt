-- Rows of a plan: one strip more. Assumes nothing.
--   Extending                     the rows below m are longer by a strip, the others as they were
--   planned_none, planned_more    no strip yet; one strip more
--   reach_of                      a plan's offsets have room behind them
--   reach_less                    and so for less room
use mathlib.Core.Path.{◌≡◌, refl, sym, ap, ap₂, ◌∙◌}
use mathlib.Core.List.{List}
use Prim.Native.Nat.{ℕ, zero, suc, ◌+◌, ◌*◌, ◌-◌, ◌/◌, ◌^◌, ◌≤◌, ◌<◌}
use native.Mathlib.Nat.{suc-mul, mod-lt}
use native.Mathlib.Decide.{ℕ_discrete}
use native.Mathlib.Omega.{arith}
use lib.ListN.{length}
use Rattle.algebra.specs.Sequence.{at}
use Rattle.field.specs.Field.{pick}
use Rattle.field.proofs.Byte.{◌⊕◌, ⊕_zero}
use Rattle.tiles.specs.Step.{sum, bit, PlanRow, Planned, Reach, Longer, Extended}
use Rattle.tiles.proofs.Sum.{sum_none, sum_more, sum_same, sum_below}

pub record Extending (w o : ℕ) (os os' ns ns' : List ℕ) (m : ℕ) : Type 0 where
  pub offsets_size : length os' ≡ length os
  pub counts_size : length ns' ≡ length ns
  pub done : (i : ℕ) → i < m → Longer w o os os' ns ns' i
  pub counts : (i : ℕ) → m ≤ i → at ns' i ≡ at ns i
  pub places : (i k : ℕ) → m ≤ i → at os' (i * 16 + k) ≡ at os (i * 16 + k)

two : 0 < 2
two = omega arith

row_none : (ws : List ℕ) (l : ℕ) (os : List ℕ) (m : ℕ) → PlanRow ws l os m 0 0
row_none ws l os m =
    record { few = omega arith; within = λ k h. absurd (omega arith); same = λ g. sum_none 0 (λ k. g (at os (m * 16 + k))) ∙ sym (sum_none 0 (λ i. pick (bit m (at ws i)) (g (i * l)))) }

pub planned_none : (ws : List ℕ) (l : ℕ) (os ns : List ℕ) → ((m : ℕ) → m < 8 → at ns m ≡ 0) → Planned ws l os ns 0
planned_none ws l os ns z = record { row = λ m h. rw (z m h) (row_none ws l os m); bytes = λ i h. absurd (omega arith) }

module _ (ws : List ℕ) (l : ℕ) (os os' : List ℕ) (m n j : ℕ) (last : at os' (m * 16 + n) ≡ j * l) (kept : (k : ℕ) → k < n → at os' (m * 16 + k) ≡ at os (m * 16 + k)) (R : PlanRow ws l os m n j) where
  more_l : j * l + l ≡ suc j * l
  more_l = sym (suc-mul j l)

  sums : (g : ℕ → ℕ) → sum 0 (λ k. g (at os' (m * 16 + k))) n ≡ sum 0 (λ i. pick (bit m (at ws i)) (g (i * l))) j
  sums g = sum_same 0 (λ k. g (at os' (m * 16 + k))) (λ k. g (at os (m * 16 + k))) n (λ k h. ap g (kept k h)) ∙ R.same g

  -- the strip's weight does not have the bit
  row_skip : bit m (at ws j) ≡ 0 → PlanRow ws l os' m n (suc j)
  row_skip e =
      record {
        few = omega (arith, R.few);
        within = λ k h. omega (arith, kept k h, R.within k h, more_l);
        same = λ g. let f : ℕ → ℕ = λ i. pick (bit m (at ws i)) (g (i * l)) in
            sums g ∙ sym (sum_more 0 f j ∙ ap (λ b. sum 0 f j ⊕ pick b (g (j * l))) e ∙ ⊕_zero (sum_below f j));
      }

  -- it does
  row_take : bit m (at ws j) ≡ 1 → PlanRow ws l os' m (suc n) (suc j)
  row_take e =
      record {
        few = omega (arith, R.few);
        within = λ k h. go k h (ℕ_discrete k n);
        same = λ g. let f : ℕ → ℕ = λ i. pick (bit m (at ws i)) (g (i * l)) in
            sum_more 0 (λ k. g (at os' (m * 16 + k))) n
            ∙ ap₂ ◌⊕◌ (sums g) (ap g last)
            ∙ sym (sum_more 0 f j ∙ ap (λ b. sum 0 f j ⊕ pick b (g (j * l))) e);
      }
    where
      go : (k : ℕ) → k < suc n → Dec (k ≡ n) → at os' (m * 16 + k) + l ≤ suc j * l
      go k h (yes p) = rw p (omega (arith, last, more_l))
      go k h (no q) = let b : k < n = omega arith in omega (arith, kept k b, R.within k b, more_l)

  pub row_more : PlanRow ws l os' m (n + bit m (at ws j)) (suc j)
  row_more = go (bit m (at ws j)) refl
    where
      go : (b : ℕ) → bit m (at ws j) ≡ b → PlanRow ws l os' m (n + bit m (at ws j)) (suc j)
      go zero e = let z : n + bit m (at ws j) ≡ n = omega arith in rw z (row_skip e)
      go (suc zero) e = let z : n + bit m (at ws j) ≡ suc n = omega arith in rw z (row_take e)
      go (suc (suc b)) e = absurd (omega (arith, mod-lt (at ws j / 2 ^ (7 - m)) two))

pub planned_more : (ws : List ℕ) (l w o : ℕ) (os os' ns ns' : List ℕ) (j : ℕ) → w ≡ at ws j → w < 256 → o ≡ j * l
    → Planned ws l os ns j → Extended w o os os' ns ns' → Planned ws l os' ns' (suc j)
planned_more ws l w o os os' ns ns' j e b d P E = record { row = row; bytes = λ i h. go i h (ℕ_discrete i j) }
  where
    row : (m : ℕ) → m < 8 → PlanRow ws l os' m (at ns' m) (suc j)
    row m h =
        let L = E m h in
        let c : at ns' m ≡ at ns m + bit m (at ws j) = L.number ∙ ap (λ x. at ns m + bit m x) e in
        rw c (row_more ws l os os' m (at ns m) j (L.last ∙ d) L.kept (P.row m h))

    go : (i : ℕ) → i < suc j → Dec (i ≡ j) → at ws i < 256
    go i h (yes p) = rw p (omega arith)
    go i h (no n) = P.bytes i (omega arith)

pub reach_of : (ws : List ℕ) (l : ℕ) (os ns : List ℕ) (r total : ℕ) → r ≤ 16 → r * l ≤ total → Planned ws l os ns r → Reach l total os ns
reach_of ws l os ns r total b t P =
    record { few = λ m h. omega (arith, (P.row m h).few); within = λ m k h g. omega (arith, (P.row m h).within k g) }

pub reach_less : {a b total : ℕ} {os ns : List ℕ} → a ≤ b → Reach b total os ns → Reach a total os ns
reach_less h R = record { few = R.few; within = λ m k g n. omega (arith, R.within m k g n) }
