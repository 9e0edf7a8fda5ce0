-- Powers of a point as weights. Assumes nothing.
--   weight_first, weight_past, weight_below     a weight below n, one from n on; all are bytes
--   Weighed x n ws        == the sixteen entries of ws are the first n powers of x, then zeros
--   weighed_none, weighed_more
--   sum_stop              terms that are 0 may be left out at the end of a sum
--   row_value             a row written with such weights has the values of the polynomial
use mathlib.Core.Path.{◌≡◌, refl, sym, ap, ◌∙◌}
use mathlib.Core.Logic.{◌≢◌}
use mathlib.Core.List.{List}
use Prim.Native.Nat.{ℕ, zero, suc, ◌+◌, ◌*◌, ◌-◌, ◌≤◌, ◌<◌}
use native.Mathlib.Nat.{add-zero, add-suc}
use native.Mathlib.Decide.{ℕ_discrete, dec_lt}
use native.Mathlib.Omega.{arith}
use borrow.Author.Tests.{lt-ltb, le-ltb}
use lib.Dec.{lit<}
use lib.ListN.{length, replicate, set, length-set}
use lib.Seq.{get_or-set_same, get_or-set_other}
use Rattle.algebra.specs.Sequence.{at}
use Rattle.algebra.proofs.At.{at_zeros}
use Rattle.field.specs.Field.{q, power, times, times_from}
use Rattle.field.proofs.Byte.{◌⊕◌, ⊕_zero, times_below}
use Rattle.field.proofs.Elem.{zero_times}
use Rattle.tiles.specs.Step.{sum}
use Rattle.tiles.proofs.Sum.{sum_more, sum_same, sum_below}
use Rattle.lanes.specs.Lane.{shown}
use Rattle.plane_sums.specs.Step.{RowWritten}
use Rattle.plane_sums.proofs.Shown.{shown_below}
use Rattle.tile_evaluation.specs.Step.{weight, value, PlanAt, TablesAt, ValueWritten}

pub weight_first : (x n e : ℕ) → e < n → weight x n e ≡ power 1 x e
unfolding weight
weight_first x n e h = rw (lt-ltb e n h) refl

pub weight_past : (x n e : ℕ) → n ≤ e → weight x n e ≡ 0
unfolding weight
weight_past x n e h = rw (le-ltb e n h) refl

power_below : (x e : ℕ) → power 1 x e < 256
unfolding power times
power_below x zero = lit< tt
power_below x (suc e) = times_below 8 x (power 1 x e)

pub weight_below : (x n e : ℕ) → weight x n e < 256
weight_below x n e = go (dec_lt e n)
  where
    go : Dec (e < n) → weight x n e < 256
    go (yes h) = rw (weight_first x n e h) (power_below x e)
    go (no h) = rw (weight_past x n e (omega arith)) (lit< tt)

pub record Weighed (x n : ℕ) (ws : List ℕ) : Type 0 where
  pub size : length ws ≡ 16
  pub entry : (e : ℕ) → at ws e ≡ weight x n e

pub weighed_none : (x : ℕ) → Weighed x 0 (replicate 16 0)
weighed_none x = record { size = refl; entry = λ e. at_zeros 16 e ∙ sym (weight_past x 0 e (omega arith)) }

pub weighed_more : (x n v : ℕ) (ws : List ℕ) → n < 16 → v ≡ power 1 x n → Weighed x n ws → Weighed x (n + 1) (set ws n v)
weighed_more x n v ws h q W = record { size = length-set ws n v ∙ W.size; entry = λ e. go e (ℕ_discrete e n) }
  where
    other : (e : ℕ) → e ≢ n → Dec (e < n) → weight x n e ≡ weight x (n + 1) e
    other e d (yes l) = weight_first x n e l ∙ sym (weight_first x (n + 1) e (omega arith))
    other e d (no l) = weight_past x n e (omega arith) ∙ sym (weight_past x (n + 1) e (omega arith))

    go : (e : ℕ) → Dec (e ≡ n) → at (set ws n v) e ≡ weight x (n + 1) e
    go e (yes d) = rw d (get_or-set_same ws n v 0 (omega (arith, W.size)) ∙ q ∙ sym (weight_first x (n + 1) n (omega arith)))
    go e (no d) = get_or-set_other ws n e v 0 d ∙ W.entry e ∙ other e d (dec_lt e n)

pub sum_stop : (f : ℕ → ℕ) (n k : ℕ) → ((e : ℕ) → n ≤ e → f e ≡ 0) → sum 0 f (n + k) ≡ sum 0 f n
sum_stop f n zero z = ap (sum 0 f) (add-zero n)
sum_stop f n (suc k) z =
    ap (sum 0 f) (add-suc n k) ∙ sum_more 0 f (n + k) ∙ ap (λ a. sum 0 f (n + k) ⊕ a) (z (n + k) (omega arith))
    ∙ ⊕_zero (sum_below f (n + k)) ∙ sum_stop f n k z

-- the sum over l inputs, of which n have a weight
weights_sum : (x n l : ℕ) (v : ℕ → ℕ) → n ≤ l → ((e : ℕ) → v e < 256) → sum 0 (λ e. times_from 8 (weight x n e) (v e)) l ≡ value x n v
unfolding value
weights_sum x n l v h b =
    let f : ℕ → ℕ = λ e. times_from 8 (weight x n e) (v e) in
    let s : n + (l - n) ≡ l = omega arith in
    let nil : (e : ℕ) → times_from 8 0 (v e) ≡ 0 = λ e. unfold times q in zero_times 1 (v e) (b e) in
    ap (sum 0 f) (sym s)
    ∙ sum_stop f n (l - n) (λ e k. ap (λ w. times_from 8 w (v e)) (weight_past x n e k) ∙ nil e)
    ∙ sum_same 0 f (λ e. times_from 8 (power 1 x e) (v e)) n (λ e k. ap (λ w. times_from 8 w (v e)) (weight_first x n e k))

pub row_value : (k g : ℕ) (ps : List ℕ) (p : ℕ) (ts : List ℕ) (o : ℕ) (a z : List ℕ) → g ≡ k → RowWritten k ps p ts o a z
    → (x n m : ℕ) (xs : List ℕ) → n ≤ g * 4 → PlanAt x n g ps p → TablesAt xs m g ts → ValueWritten x n (λ e. shown xs (m + e * 256)) o a z
row_value k g ps p ts o a z e W x n m xs h P T =
    let R : RowWritten g ps p ts o a z = rw e W in
    record {
      size = R.size;
      own = λ s i b l.
          R.own (weight x n) (λ e. shown xs (m + e * 256)) (λ e k. weight_below x n e) (λ e s i k. shown_below xs (m + e * 256) s i) P.0 T s i b l
          ∙ weights_sum x n (g * 4) (λ e. shown xs (m + e * 256) s i) h (λ e. shown_below xs (m + e * 256) s i);
      before = R.before;
      behind = R.behind;
    }
