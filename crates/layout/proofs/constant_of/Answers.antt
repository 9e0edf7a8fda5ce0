use mathlib.Core.Path.{ap, ◌∙◌}
use Prim.Native.Nat.{◌*◌, ◌-◌}
use native.Mathlib.Omega.{arith}
use Rattle.field.specs.Field.{γ, power}
use Rattle.code.specs.Shape.{size}
use Rattle.code.specs.Basis.{constant}
use Rattle.code.proofs.Places.{groups_least}
use Rattle.layout.proofs.constant_of.Goals as goal

pub overflow_sub-groups_of : goal.overflow_sub-groups_of
overflow_sub-groups_of c = omega (arith, c.groups_of.ensures, groups_least c.args.shape c.requires)

pub group_power-requires : goal.group_power-requires
group_power-requires c =
    (c.requires, omega (arith, c.groups_of.ensures, groups_least c.args.shape c.requires))

pub returns : goal.returns
unfolding constant
returns c =
    let s = c.args.shape in
    c.group_power.ensures ∙ ap (λ n. power s.field γ ((n - 1) * size s)) c.groups_of.ensures
