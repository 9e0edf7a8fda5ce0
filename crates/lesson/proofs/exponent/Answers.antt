use Rattle.std.proofs.Common.{ℕ, ◌*◌, ◌/◌, ◌≤◌, ◌<◌, arith}
use Rattle.std.proofs.Math.Nat.{mul-le-mul, div-le_self}
use Rattle.code.specs.declared.Shape.{Shape}
use Rattle.code.specs.Laws.{Placed}
use Rattle.code.proofs.Bounds.{size_is}
use Rattle.lesson.proofs.exponent.Goals as goal

product_most : (s : Shape) (m : ℕ) → Placed s → m < 16 → s.tolerance * (m / s.r) ≤ 17 * 16
product_most s m P l =
    mul-le-mul {n₁ = s.tolerance} {m₁ = m / s.r} {n₂ = 17} {m₂ = 16} (omega (arith, P.size_most, size_is s)) (omega (arith, l, div-le_self m s.r))

pub overflow_mul-result : goal.overflow_mul-result
overflow_mul-result c = omega (arith, product_most c.args.shape c.args.m c.requires.0 c.requires.1)

pub overflow_add-result : goal.overflow_add-result
overflow_add-result c = omega (arith, product_most c.args.shape c.args.m c.requires.0 c.requires.1)
