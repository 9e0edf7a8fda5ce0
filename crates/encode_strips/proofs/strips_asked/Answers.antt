use Prim.Native.Nat.{◌/◌, ◌≤◌}
use native.Mathlib.Nat.{mul-div-le, mul-le-mul_right}
use native.Mathlib.Omega.{arith}
use Rattle.encode_strips.proofs.strips_asked.Goals as goal

pub nonzero_div-l : goal.nonzero_div-l
nonzero_div-l c = omega (arith, (c.requires (grind arith)).family.placed.n_least)

pub strips_are-requires : goal.strips_are-requires
strips_are-requires c = mul-div-le c.args.length c.args.shape.n

pub overflow_mul-shape : goal.overflow_mul-shape
overflow_mul-shape c =
    let a = c.args in
    let F = (c.requires (grind arith)).family in
    let k : a.shape.k ≤ a.shape.n = omega (arith, F.k_below) in
    omega (arith, mul-le-mul_right (a.length / a.shape.n) k, mul-div-le a.length a.shape.n)
