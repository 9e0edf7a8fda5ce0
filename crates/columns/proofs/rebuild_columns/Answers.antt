use mathlib.Core.Path.{◌≡◌, refl, sym, ap, ◌∙◌}
use Prim.Native.Nat.{ℕ}
use native.Mathlib.Omega.{arith}
use lib.ListN.{length, set, take}
use Rattle.algebra.specs.Sequence.{column}
use Rattle.algebra.proofs.Filling.{filled_none, filled_more, filled_all}
use Rattle.field.specs.Polynomial.{dotted}
use Rattle.columns.proofs.Columns.{column_alone}
use Rattle.columns.proofs.rebuild_columns.Goals as goal

pub returns-then-output-eq1 : goal.returns-then-output-eq1
returns-then-output-eq1 c =
    let a = c.args in
    let l = length a.output.now in
    let one : l ≡ 1 = c.if-output-eq1.true in
    let ws = take a.r a.weights.now in
    let sum : ℕ → ℕ = λ i. dotted a.field ws (column a.r l i a.strips.now) in
    let e = c.rebuild_column.ensures ∙ ap (dotted a.field ws) (column_alone a.r l a.strips.now one c.requires.3) in
    let F = filled_more sum 0 c.rebuild_column.result a.output.now a.output.now (omega arith) e (filled_none sum a.output.now) in
    filled_all sum 1 l a.output.now (set a.output.now 0 c.rebuild_column.result) (sym one) refl F
