-- What decoding answers of the columns of strips. Assumes nothing: these are definitions.
--   ColumnAnswer s l ws ms zs c x   == decode of column c of ws answers x, and where that is 0 the message is column c of zs
--   Answer s l ws ms zs              == 0: every column's answer is 0; 9: some column's is 9; 10: no column's is 9, and some column's is 10
use Rattle.std.specs.Prelude.{List, ℕ, ◌<◌}
use Rattle.algebra.specs.Sequence.{column}
use Rattle.code.specs.Verdict.{Verdict}
use Rattle.code.specs.declared.Shape.{Shape}

abbrev pub ColumnAnswer : Shape → (l : ℕ) → (words marks messages : List ℕ) → (c x : ℕ) → Type 0
ColumnAnswer s l ws ms zs c x = Verdict s (column s.n l c ws) ms (column s.k l c zs) (column s.k l c zs) x

pub data Answer (s : Shape) (l : ℕ) (ws ms zs : List ℕ) : ℕ → Type 0 where
  each : ((c : ℕ) → c < l → ColumnAnswer s l ws ms zs c 0) → Answer s l ws ms zs 0
  none : (c : ℕ) → c < l → ColumnAnswer s l ws ms zs c 9 → Answer s l ws ms zs 9
  more :
      ((c : ℕ) → c < l → ColumnAnswer s l ws ms zs c 9 → ⊥) → (c : ℕ) → c < l → ColumnAnswer s l ws ms zs c 10
      → Answer s l ws ms zs 10
