use mathlib.Core.Path.{refl}
use mathlib.Core.Bool.{true, false}
use Prim.Native.Nat.{◌≤◌}
use native.Mathlib.Nat.{mul-le-mul}
use native.Mathlib.Omega.{arith}
use Rattle.code.specs.Shape.{size}
use Rattle.code.proofs.Bounds.{groups_most}
use Rattle.layout.proofs.Numbers.{wired_yes, wired_no, first_is}
use Rattle.layout.proofs.first_of.Goals as goal

pub returns-then-shape-eq1 : goal.returns-then-shape-eq1
returns-then-shape-eq1 c = first_is c.args.shape true (wired_yes c.args.shape c.if-shape-eq1.true) c.args.group (size c.args.shape) refl

pub overflow_mul-result : goal.overflow_mul-result
overflow_mul-result c =
    let g : c.args.group ≤ 255 = omega (arith, c.requires.1, groups_most c.args.shape c.requires.0) in
    let z : c.size_of.result ≤ 17 = omega (arith, c.size_of.ensures, c.requires.0.size_most) in
    omega (arith, mul-le-mul g z)

pub returns : goal.returns
returns c = first_is c.args.shape false (wired_no c.args.shape c.if-shape-eq1.false) c.args.group c.size_of.result c.size_of.ensures
