-- A plan of four weights, one nibble a turn. Assumes nothing.
--   Planning w m d n a z    == a has become z: the first n nibbles are written, all else unchanged
--   planning_more
--   step_below              the place of a nibble is at most that of the last
use mathlib.Core.Path.{◌≡◌, ◌∙◌}
use mathlib.Core.Logic.{◌≢◌}
use mathlib.Core.List.{List}
use Prim.Native.Nat.{ℕ, ◌+◌, ◌*◌, ◌≤◌, ◌<◌}
use native.Mathlib.Decide.{ℕ_discrete}
use native.Mathlib.Omega.{arith}
use lib.ListN.{length, set, length-set}
use lib.Seq.{get_or-set_same, get_or-set_other}
use Rattle.algebra.specs.Sequence.{at}
use Rattle.algebra.proofs.Strides.{row_step}
use Rattle.plane_sums.specs.Step.{nibble}

pub step_below : (l d : ℕ) → l < 8 → l * d ≤ 7 * d
step_below l d h = omega (arith, row_step l 8 d h)

pub record Planning (w : ℕ → ℕ) (m d n : ℕ) (a z : List ℕ) : Type 0 where
  pub size : length z ≡ length a
  pub own : (l : ℕ) → l < n → at z (m + l * d) ≡ nibble l w
  pub other : (x : ℕ) → ((l : ℕ) → l < n → x ≢ m + l * d) → at z x ≡ at a x

pub planning_more : (w : ℕ → ℕ) (m d n y : ℕ) (a z : List ℕ) → 1 ≤ d → m + n * d < length z → y ≡ nibble n w → Planning w m d n a z
    → Planning w m d (n + 1) a (set z (m + n * d) y)
planning_more w m d n y a z b h e P =
    record {
      size = length-set z (m + n * d) y ∙ P.size;
      own = λ l k. go l k (ℕ_discrete l n);
      other = λ x f. get_or-set_other z (m + n * d) x y 0 (f n (omega arith)) ∙ P.other x (λ l k. f l (omega arith));
    }
  where
    go : (l : ℕ) → l < n + 1 → Dec (l ≡ n) → at (set z (m + n * d) y) (m + l * d) ≡ nibble l w
    go l k (yes q) = rw q (get_or-set_same z (m + n * d) y 0 h ∙ e)
    go l k (no q) =
        let s : l < n = omega arith in
        get_or-set_other z (m + n * d) (m + l * d) y 0 (λ r. omega (arith, row_step l n d s)) ∙ P.own l s
