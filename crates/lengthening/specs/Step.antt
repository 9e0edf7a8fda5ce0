-- A message of a code with a short last group as a row of coefficients in blocks of r, and the steps to it. Assumes nothing: these are definitions.
--   lower a p        == the entry before entry p; 0 before the first
--   Tail s bs z      == z starts with the r coefficients of h times the polynomial of bs, and is 0 behind them
--   Row s ms rs      == rs has k + missing entries, and in powers of g they are the encoding polynomial of ms
use Rattle.std.specs.Prelude.{◌≡◌, true, List, ℕ, zero, suc, ◌+◌, ◌≤◌, ◌<◌, length}
use Rattle.algebra.specs.Sequence.{at, all_below}
use Rattle.field.specs.Field.{q, times}
use Rattle.field.specs.Polynomial.{poly}
use Rattle.code.specs.declared.Shape.{Shape}
use Rattle.code.specs.Shape.{missing}
use Rattle.code.specs.Basis.{good, vanishing}
use Rattle.code.specs.Codeword.{value}
use Rattle.local_code.specs.Step.{local_coefs}

unfoldable pub lower : List ℕ → ℕ → ℕ
lower a zero = 0
lower a (suc p) = at a p

pub record Tail (s : Shape) (bs z : List ℕ) : Type 0 where
  pub room : length z ≡ 16
  pub below : all_below (q s.field) z ≡ true
  pub few : (p : ℕ) → s.r ≤ p → at z p ≡ 0
  pub values : (x : ℕ) → x < q s.field → poly s.field z x ≡ times s.field (vanishing s x) (poly s.field bs x)

pub record Row (s : Shape) (ms rs : List ℕ) : Type 0 where
  pub size : length rs ≡ s.k + missing s
  pub below : all_below (q s.field) rs ≡ true
  pub values : (x : ℕ) → x < q s.field → poly s.field (local_coefs s (good s x) rs) x ≡ value s ms x
