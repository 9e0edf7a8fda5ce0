use mathlib.Core.Path.{◌≡◌, ap₂}
use Prim.Native.Nat.{◌+◌, ◌*◌, ◌-◌, ◌≤◌}
use native.Mathlib.Omega.{arith}
use Rattle.code.specs.Shape.{step, members}
use Rattle.layout.specs.Step.{span}
use Rattle.layout.proofs.Spans.{span_byte}
use Rattle.layout.proofs.span_of.Goals as goal
use Rattle.layout.proofs.span_of.Goals.{After-step_of}

-- the product, and that it is small
product : (c : After-step_of) → let s = c.args.shape in let j = c.args.group in
    ((c.members_of.result - 1) * c.step_of.result ≡ (members s j - 1) * step s) × ((members s j - 1) * step s + 1 ≤ 255)
unfolding span
product c = (
  ap₂ (λ a b. (a - 1) * b) c.members_of.ensures.0 c.step_of.ensures,
  span_byte c.args.shape c.requires.0 c.args.group c.requires.1,
)

pub overflow_mul-result : goal.overflow_mul-result
overflow_mul-result c = omega (arith, product (goal.at.overflow_mul-result c).After-step_of)

pub overflow_add-result : goal.overflow_add-result
overflow_add-result c = omega (arith, product (goal.at.overflow_add-result c).After-step_of)

pub returns : goal.returns
unfolding span
returns c = omega (arith, product (goal.at.returns c).After-step_of)
