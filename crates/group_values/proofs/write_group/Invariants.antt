use mathlib.Core.List.{List}
use Prim.Native.Nat.{ℕ, ◌*◌}
use Rattle.lanes.specs.Lane.{shown}
use Rattle.tile_evaluation.specs.Step.{TablesAt}
use Rattle.group_plans.specs.Plan.{tables_for}
use Rattle.group_values.specs.Value.{GroupStored}
use Rattle.group_values.proofs.write_group.Given as goal

abbrev pub invariant-loop-i : goal.invariant-loop-i
invariant-loop-i l =
    (xs : List ℕ) → TablesAt xs (l.group * l.shape.r * 256) (tables_for l.shape.r) l.table
    → GroupStored l.shape l.l l.c l.group l.i (λ m. shown xs (m * 256)) l.initial.codewords l.codewords
