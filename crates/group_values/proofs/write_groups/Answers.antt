use mathlib.Core.Path.{subst}
use Prim.Native.Nat.{◌*◌, ◌<◌}
use native.Mathlib.Omega.{arith}
use Rattle.lanes.specs.Lane.{shown}
use Rattle.code.specs.Shape.{groups}
use Rattle.tile_evaluation.specs.Step.{TablesAt}
use Rattle.group_plans.proofs.Several.{tables_most}
use Rattle.group_values.proofs.Storing.{groups_more, coefs_room}
use Rattle.group_values.proofs.write_groups.Goals as goal

pub overflow_mul-j-in-loop-j : goal.overflow_mul-j-in-loop-j
overflow_mul-j-in-loop-j c =
    let t = c.tables_for-g in
    let j : c.loop-j.j < groups c.args.shape = omega (arith, c.groups_of-groups.ensures) in
    omega (arith, coefs_room c.args.shape c.requires.0.plain.family.placed t.result t.ensures.1 c.loop-j.j c.requires.0.one j)

pub write_tables-requires : goal.write_tables-requires
write_tables-requires c =
    let t = c.tables_for-g in
    let l = c.loop-j in
    let most = tables_most t.result t.ensures.1 in
    let j : l.j < groups c.args.shape = omega (arith, c.groups_of-groups.ensures) in
    (most, omega (arith, coefs_room c.args.shape c.requires.0.plain.family.placed t.result t.ensures.1 l.j c.requires.0.one j), omega arith)

pub loop-j-preserved : goal.loop-j-preserved
loop-j-preserved c =
    let a = c.args in
    let l = c.loop-j in
    let o = c.write_tables in
    let j : l.j < groups a.shape = omega (arith, c.loop-j-test.true, c.groups_of-groups.ensures) in
    groups_more a.shape c.requires.0.plain.family.placed a.l a.c c.requires.6 (λ m. shown a.coefs.now (m * 256)) l.j a.codewords.now l.codewords _ j
    l.invariant (c.write_group.ensures.1 a.coefs.now (subst (λ g. TablesAt a.coefs.now (l.j * a.shape.r * 256) g o.new.table) c.tables_for-g.ensures.0 o.ensures.1))
