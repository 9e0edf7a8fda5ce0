-- Plans of several points, 32 places each. Assumes nothing.
--   Several f n g j z    == from place 32 i on, i below j, there is the plan of the first n powers of f i
--   several_more, several_all
--   tables_least, tables_most    there is a table; there are at most four
--   blocks_hold                  the blocks hold all message symbols
use mathlib.Core.Path.{◌≡◌, ◌∙◌}
use mathlib.Core.Logic.{◌⊎◌, inl, inr}
use mathlib.Core.List.{List}
use Prim.Native.Nat.{ℕ, ◌+◌, ◌*◌, ◌-◌, ◌/◌, ◌≤◌, ◌<◌}
use native.Mathlib.Nat.{div-add-mod', mod-lt}
use native.Mathlib.Decide.{ℕ_discrete}
use native.Mathlib.Omega.{arith}
use lib.ListN.{length}
use Rattle.tile_evaluation.specs.Step.{PlanAt, PowersPlanned}
use Rattle.tile_evaluation.proofs.Planning.{plan_kept}
use Rattle.group_plans.specs.Plan.{tables_for}

pub record Several (f : ℕ → ℕ) (n g j : ℕ) (z : List ℕ) : Type 0 where
  pub size : length z ≡ 8192
  pub own : (i : ℕ) → i < j → PlanAt (f i) n g z (i * 32)

pub several_more : (f : ℕ → ℕ) (n g j x : ℕ) (a z : List ℕ) → g ≤ 4 → x ≡ f j → PowersPlanned x n g (j * 32) a z → Several f n g j a → Several f n g (j + 1) z
several_more f n g j x a z b e P S = record { size = P.size ∙ S.size; own = λ i h. go i h (ℕ_discrete i j) }
  where
    go : (i : ℕ) → i < j + 1 → Dec (i ≡ j) → PlanAt (f i) n g z (i * 32)
    go i h (yes d) = rw (d, ← e) P.own
    go i h (no d) = plan_kept (f i) n g (i * 32) a z (λ p k l. P.before p (omega arith)) (S.own i (omega arith))

pub several_all : (f : ℕ → ℕ) (n m g j k : ℕ) (z : List ℕ) → n ≡ m → g ≡ tables_for n → k ≤ j → Several f n g j z
    → (length z ≡ 8192) × ((i : ℕ) → i < k → PlanAt (f i) m (tables_for m) z (i * 32))
several_all f n m g j k z e d h S = rw (← e, ← d) ((S.size, λ i l. S.own i (omega arith)))

pub tables_least : (g : ℕ) → (g ≡ 1) ⊎ (g ≡ 4) → 1 ≤ g
tables_least g (inl e) = omega arith
tables_least g (inr e) = omega arith

pub tables_most : (g : ℕ) → (g ≡ 1) ⊎ (g ≡ 4) → g ≤ 4
tables_most g (inl e) = omega arith
tables_most g (inr e) = omega arith

pub blocks_hold : (k r : ℕ) → 1 ≤ r → k ≤ (k + r - 1) / r * r
blocks_hold k r h = omega (arith, div-add-mod' (k + r - 1) r, mod-lt (k + r - 1) h)
