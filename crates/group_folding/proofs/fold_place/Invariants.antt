use mathlib.Core.List.{List}
use Prim.Native.Nat.{ℕ, ◌*◌}
use Rattle.lanes.specs.Lane.{shown}
use Rattle.tile_evaluation.specs.Step.{TablesAt}
use Rattle.group_folding.specs.Fold.{PlaceFolded}
use Rattle.group_folding.proofs.fold_place.Given as goal

abbrev pub invariant-loop-j : goal.invariant-loop-j
invariant-loop-j l =
    (xs : List ℕ) → TablesAt xs 0 l.g l.table → PlaceFolded l.shape l.b l.j (λ e. shown xs (e * 256)) l.initial.coefs l.coefs
