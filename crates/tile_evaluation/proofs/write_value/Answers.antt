use mathlib.Core.Path.{◌≡◌}
use mathlib.Core.Logic.{◌≢◌, ◌⊎◌, inl, inr}
use Prim.Native.Nat.{ℕ}
use Rattle.tile_evaluation.proofs.Weights.{row_value}
use Rattle.tile_evaluation.proofs.write_value.Goals as goal

-- not one table: four
four : (g : ℕ) → (g ≡ 1) ⊎ (g ≡ 4) → g ≢ 1 → g ≡ 4
four g (inl e) n = absurd (n e)
four g (inr e) n = e

pub returns-then-g-eq1 : goal.returns-then-g-eq1
returns-then-g-eq1 c =
    let a = c.args in
    row_value 1 a.g a.plan.now a.p a.table.now a.o a.out.now _ c.if-g-eq1.true c.write_row.ensures

pub returns : goal.returns
returns c =
    let a = c.args in
    let e = four a.g c.requires.0 c.if-g-eq1.false in
    row_value 4 a.g a.plan.now a.p a.table.now a.o a.out.now _ e c.write_row-2.ensures
