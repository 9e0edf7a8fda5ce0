-- A column of strips written symbol by symbol. Assumes nothing.
--   PutFront xs l c n a z   == a has become z: the first n symbols of xs stand in column c, all else unchanged
--   front_more               one symbol more
use mathlib.Core.Path.{◌≡◌, ◌∙◌}
use mathlib.Core.Logic.{◌≢◌}
use mathlib.Core.List.{List}
use Prim.Native.Nat.{ℕ, ◌+◌, ◌*◌, ◌<◌}
use native.Mathlib.Decide.{ℕ_discrete}
use native.Mathlib.Omega.{arith}
use lib.ListN.{length, set, length-set}
use lib.Seq.{get_or-set_same, get_or-set_other}
use Rattle.algebra.specs.Sequence.{at}
use Rattle.algebra.proofs.Strides.{row_step}

pub record PutFront (xs : List ℕ) (l c n : ℕ) (a z : List ℕ) : Type 0 where
  pub size : length z ≡ length a
  pub own : (m : ℕ) → m < n → at z (m * l + c) ≡ at xs m
  pub other : (x : ℕ) → ((m : ℕ) → m < n → x ≢ m * l + c) → at z x ≡ at a x

pub front_more : (xs : List ℕ) (l c n y : ℕ) (a z : List ℕ) → c < l → n * l + c < length z → y ≡ at xs n → PutFront xs l c n a z
    → PutFront xs l c (n + 1) a (set z (n * l + c) y)
front_more xs l c n y a z b h e F =
    record {
      size = length-set z (n * l + c) y ∙ F.size;
      own = λ m k. go m k (ℕ_discrete m n);
      other = λ x f. get_or-set_other z (n * l + c) x y 0 (f n (omega arith)) ∙ F.other x (λ m k. f m (omega arith));
    }
  where
    go : (m : ℕ) → m < n + 1 → Dec (m ≡ n) → at (set z (n * l + c) y) (m * l + c) ≡ at xs m
    go m k (yes q) = rw q (get_or-set_same z (n * l + c) y 0 h ∙ e)
    go m k (no q) = get_or-set_other z (n * l + c) (m * l + c) y 0 (λ s. absurd (omega (arith, row_step m n l (omega arith)))) ∙ F.own m (omega arith)
