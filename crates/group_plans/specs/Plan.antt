-- Plans for the encode of strips by groups. Assumes nothing: these are definitions.
--   blocks s                == how many blocks of r message symbols there are; the last may be short
--   tables_for n            == how many tables of four tiles n coefficients take: one or four
--   level_at s j            == the power r + 1 of the points of group j
--   GroupsPlanned s ps     == from place 32 j on the powers of the level of group j, as many as blocks
--   SlotsPlanned s ps      == from place 32 p on the powers of the point of slot p, r of them
--   ByteCode s             == a code over bytes with whole groups and at most sixteen blocks
use Rattle.std.specs.Prelude.{◌≡◌, true, cond, List, ℕ, ◌+◌, ◌*◌, ◌-◌, ◌/◌, ◌≤◌, ◌<◌, ltb}
use Rattle.field.specs.Field.{γ, power}
use Rattle.code.specs.declared.Shape.{Shape}
use Rattle.code.specs.Shape.{size, groups, whole, point}
use Rattle.code.specs.Laws.{Plain}
use Rattle.tile_evaluation.specs.Step.{PlanAt}

unfoldable pub blocks : Shape → ℕ
blocks s = (s.k + s.r - 1) / s.r

unfoldable pub tables_for : (n : ℕ) → ℕ
tables_for n = cond (ltb 4 n) 4 1

unfoldable pub level_at : Shape → (group : ℕ) → ℕ
level_at s j = power 1 γ (j * size s)

abbrev pub GroupsPlanned : Shape → (plan : List ℕ) → Type 0
GroupsPlanned s ps = (j : ℕ) → j < groups s → PlanAt (level_at s j) (blocks s) (tables_for (blocks s)) ps (j * 32)

abbrev pub SlotsPlanned : Shape → (plan : List ℕ) → Type 0
SlotsPlanned s ps = (p : ℕ) → p < s.n → PlanAt (point s p) s.r (tables_for s.r) ps (p * 32)

pub record ByteCode (s : Shape) : Type 0 where
  pub plain : Plain s
  pub bytes : s.field ≡ 1
  pub whole_groups : whole s ≡ true
  pub one : s.tolerance ≡ 1
  pub few : blocks s ≤ 16
