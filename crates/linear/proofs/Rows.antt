-- Rows of a buffer: what a row operation writes. Assumes nothing.
--   added_more                 a row operation, one column more
--   row_others, row_put        the same on whole rows, where the columns before the first written are 0
use mathlib.Core.Path.{◌≡◌, sym, ap, ap₂, ◌∙◌}
use mathlib.Core.Logic.{◌≢◌}
use mathlib.Core.List.{List}
use Prim.Native.Nat.{ℕ, ◌+◌, ◌*◌, ◌-◌, ◌≤◌, ◌<◌}
use native.Mathlib.Decide.{dec_lt}
use native.Mathlib.Omega.{arith}
use lib.ListN.{length, set}
use Rattle.algebra.specs.Sequence.{at}
use Rattle.algebra.specs.Writing.{Written}
use Rattle.algebra.proofs.Writing.{laid_at, laid_more}
use Rattle.algebra.proofs.Strides.{row_step}
use Rattle.field.specs.Field.{q, plus, times}
use Rattle.field.proofs.Laws.{laws}
use Rattle.field.proofs.Elem.{times_zero}
use Rattle.linear.specs.System.{entry}
use Rattle.linear.specs.Step.{Added, Apart}

pub added_more : (f : ℕ) (a b : List ℕ) (d s len c m v : ℕ) → Added f a b d s m c → m < len → Apart d s len → d + len ≤ length b
    → v ≡ plus f (at b (d + m)) (times f c (at b (s + m))) → Added f a (set b (d + m) v) d s (m + 1) c
added_more f a b d s len c m v A hm apart hd e = laid_more (omega arith) (e ∙ ap₂ (λ x y. plus f x (times f c y)) (W.behind (d + m) (omega arith)) source) A
  where
    W : Written (λ p. plus f (at a (d + (p - d))) (times f c (at a (s + (p - d))))) d (d + m) a b
    W = A.written

    source : at b (s + m) ≡ at a (s + m)
    source = go (dec_lt (s + m) d) (dec_lt (s + m) (d + m))
      where
        go : Dec (s + m < d) → Dec (s + m < d + m) → at b (s + m) ≡ at a (s + m)
        go (yes p) _ = W.before (s + m) p
        go (no p) (yes r) = absurd (apart (s + m - d) m (omega arith) hm (omega arith))
        go (no p) (no r) = W.behind (s + m) (omega arith)

-- a row operation from column j on
module _ (f k : ℕ) (a b : List ℕ) (d s c j : ℕ) (A : Added f a b (d * (k + 1) + j) (s * (k + 1) + j) (k + 1 - j) c) (hj : j ≤ k) where
  pub row_others : (i m : ℕ) → i ≢ d → m ≤ k → entry k b i m ≡ entry k a i m
  row_others i m g h = go (dec_lt i d)
    where
      go : Dec (i < d) → entry k b i m ≡ entry k a i m
      go (yes p) = A.written.before (i * (k + 1) + m) (omega (arith, row_step i d (k + 1) p))
      go (no p) = let r : d < i = omega arith in A.written.behind (i * (k + 1) + m) (omega (arith, row_step d i (k + 1) r))

  pub row_put : c < q f → ((m : ℕ) → m < j → entry k a d m < q f) → ((m : ℕ) → m < j → entry k a s m ≡ 0)
      → (m : ℕ) → m ≤ k → entry k b d m ≡ plus f (entry k a d m) (times f c (entry k a s m))
  row_put hc small zeros m h = go (dec_lt m j)
    where
      go : Dec (m < j) → entry k b d m ≡ plus f (entry k a d m) (times f c (entry k a s m))
      go (yes p) =
          let z : times f c (entry k a s m) ≡ 0 = ap (λ n. times f c n) (zeros m p) ∙ times_zero f c hc in
          A.written.before (d * (k + 1) + m) (omega arith) ∙ sym (ap (λ n. plus f (entry k a d m) n) z ∙ (laws f).plus_zero (entry k a d m) (small m p))
      go (no p) =
          let u : d * (k + 1) + j + (m - j) ≡ d * (k + 1) + m = omega arith in
          let v : s * (k + 1) + j + (m - j) ≡ s * (k + 1) + m = omega arith in
          ap (at b) (sym u) ∙ laid_at A (m - j) (omega arith) ∙ ap₂ (λ x y. plus f (at a x) (times f c (at a y))) u v
