use mathlib.Core.Path.{◌≡◌, ap, ◌∙◌}
use Prim.Native.Nat.{◌*◌}
use native.Mathlib.Omega.{arith}
use Rattle.field.specs.Field.{γ, power}
use Rattle.field.proofs.Laws.{q_most}
use Rattle.code.specs.Shape.{size}
use Rattle.layout.proofs.Numbers.{group_exponent}
use Rattle.layout.proofs.group_power.Goals as goal

pub overflow_mul-e : goal.overflow_mul-e
overflow_mul-e c =
    let e : c.args.group * c.size_of.result ≡ c.args.group * size c.args.shape = ap (λ n. c.args.group * n) c.size_of.ensures in
    omega (arith, e, group_exponent c.args.shape c.requires.0 c.args.group c.requires.1, q_most c.args.shape.field)

pub generator_power-requires : goal.generator_power-requires
generator_power-requires c =
    let e : c.args.group * c.size_of.result ≡ c.args.group * size c.args.shape = ap (λ n. c.args.group * n) c.size_of.ensures in
    (omega (arith, e, group_exponent c.args.shape c.requires.0 c.args.group c.requires.1))

pub returns : goal.returns
returns c =
    c.generator_power.ensures ∙ ap (λ n. power c.args.shape.field γ (c.args.group * n)) c.size_of.ensures
