-- Under wiring 0 a group's span is its members, one after the other. Assumes nothing.
--   step_unwired, span_unwired
use mathlib.Core.Path.{◌≡◌, ap}
use mathlib.Core.Bool.{false, cond}
use Prim.Native.Nat.{ℕ, ◌*◌, ◌-◌, ◌<◌}
use native.Mathlib.Omega.{arith}
use Rattle.code.specs.declared.Shape.{Shape}
use Rattle.code.specs.Shape.{groups, wired, step, members}
use Rattle.code.specs.Laws.{Placed}
use Rattle.code.proofs.Mates.{members_least}
use Rattle.layout.specs.Step.{span}

module _ (s : Shape) (unwired : wired s ≡ false) where
  pub step_unwired : step s ≡ 1
  unfolding step
  step_unwired = ap (λ b. cond {A = ℕ} b (groups s) 1) unwired

  pub span_unwired : Placed s → (j : ℕ) → j < groups s → span s j ≡ members s j
  unfolding span
  span_unwired P j h =
      let e : (members s j - 1) * step s ≡ (members s j - 1) * 1 = ap (λ t. (members s j - 1) * t) step_unwired in
      omega (arith, members_least s P j h)
