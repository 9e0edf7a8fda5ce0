use mathlib.Core.Path.{ap, ◌∙◌}
use Prim.Native.Nat.{◌*◌}
use native.Mathlib.Omega.{arith}
use Rattle.field.specs.Field.{γ, power}
use Rattle.code.specs.Shape.{size}
use Rattle.code.proofs.Bounds.{groups_most, k_most}
use Rattle.group_plans.specs.Plan.{level_at}
use Rattle.group_plans.proofs.Several.{several_more, several_all, tables_least, tables_most}
use Rattle.group_plans.proofs.plan_groups.Goals as goal

pub blocks_of-blocks-requires : goal.blocks_of-blocks-requires
blocks_of-blocks-requires c =
    let L = c.requires.0.plain in
    (L.family.placed, omega (arith, k_most c.args.shape L))

pub plan_powers-requires : goal.plan_powers-requires
plan_powers-requires c =
    let t = c.tables_for-g in
    let few = groups_most c.args.shape c.requires.0.plain.family.placed in
    let most = tables_most t.result t.ensures.1 in (
      tables_least t.result t.ensures.1,
      most,
      t.ensures.2 (omega (arith, c.requires.0.few)),
      omega (arith, c.groups_of-groups.ensures),
    )

pub loop-j-preserved : goal.loop-j-preserved
unfolding level_at
loop-j-preserved c =
    let l = c.loop-j in
    let x = c.group_power-y in
    let t = c.tables_for-g in
    let shape = c.args.shape in
    several_more (level_at shape) c.blocks_of-blocks.result t.result l.j x.result l.plan _ (tables_most t.result t.ensures.1)
    (x.ensures ∙ ap (λ f. power f γ (l.j * size shape)) c.requires.0.bytes) c.plan_powers.ensures l.invariant

pub returns : goal.returns
returns c =
    let l = c.loop-j in
    let t = c.tables_for-g in
    let b = c.blocks_of-blocks in
    several_all (level_at c.args.shape) b.result _ t.result l.j _ l.plan b.ensures.0 t.ensures.0 (omega (arith, c.groups_of-groups.ensures)) l.invariant
