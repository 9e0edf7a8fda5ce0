-- Strips of codewords, from the first column on. Assumes nothing.
--   Done s l ms c z       == the columns below c of z are encode of the columns of ms
--   done_all              every column
--   apart                 places in different columns differ
use mathlib.Core.Path.{◌≡◌, sym, ap, ◌∙◌}
use mathlib.Core.Logic.{◌≢◌}
use mathlib.Core.List.{List}
use Prim.Native.Nat.{ℕ, ◌+◌, ◌*◌, ◌/◌, ◌%◌, ◌≤◌, ◌<◌}
use native.Mathlib.Nat.{div-add-mod', mod-lt, div-lt_iff_lt-mul}
use native.Mathlib.Decide.{ℕ_discrete, dec_lt}
use native.Mathlib.Omega.{arith}
use lib.ListN.{length}
use Rattle.algebra.specs.Sequence.{at, column}
use Rattle.algebra.proofs.Tabulate.{tabulate_is}
use Rattle.algebra.proofs.Strides.{row_step}
use Rattle.code.specs.declared.Shape.{Shape}
use Rattle.code.specs.Codeword.{encoded}
use Rattle.strip_columns.specs.Strips.{encoded_strips}

pub record Done (s : Shape) (l : ℕ) (ms : List ℕ) (c : ℕ) (z : List ℕ) : Type 0 where
  pub size : length z ≡ s.n * l
  pub own : (p d : ℕ) → p < s.n → d < c → d < l → at z (p * l + d) ≡ at (encoded s (column s.k l d ms)) p

-- places in different columns differ
pub apart : (l p d m c : ℕ) → d < l → c < l → d ≢ c → p * l + d ≢ m * l + c
apart l p d m c g h n e = go (ℕ_discrete p m)
  where
    go : Dec (p ≡ m) → ⊥
    go (yes q) = n (let w : p * l ≡ m * l = ap (λ x. x * l) q in omega arith)
    go (no q) = side (dec_lt p m)
      where
        side : Dec (p < m) → ⊥
        side (yes a) = omega (arith, row_step p m l a)
        side (no a) = omega (arith, row_step m p l (omega arith))

pub done_all : (s : Shape) (l c : ℕ) (ms z : List ℕ) → l ≤ c → 1 ≤ l → Done s l ms c z → z ≡ encoded_strips s l ms
unfolding encoded_strips
done_all s l c ms z e h D =
    tabulate_is (λ x. at (encoded s (column s.k l (x % l) ms)) (x / l)) 0 (s.n * l) z D.size
    (λ x b. let m : x % l < c = omega (arith, mod-lt x h) in
    ap (at z) (sym (div-add-mod' x l)) ∙ D.own (x / l) (x % l) ((div-lt_iff_lt-mul h).1 b) m (mod-lt x h))
