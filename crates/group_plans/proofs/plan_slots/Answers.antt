use mathlib.Core.Path.{refl}
use native.Mathlib.Omega.{arith}
use Rattle.code.specs.Shape.{point}
use Rattle.code.proofs.Places.{slot_room}
use Rattle.code.proofs.Bounds.{n_most, r_most}
use Rattle.group_plans.proofs.Several.{several_more, several_all, tables_least, tables_most}
use Rattle.group_plans.proofs.plan_slots.Goals as goal

pub point_of-x-requires : goal.point_of-x-requires
point_of-x-requires c =
    let P = c.requires.0.plain.family.placed in
    (P, slot_room c.args.shape P c.loop-p.p c.loop-p-test.true)

pub plan_powers-requires : goal.plan_powers-requires
plan_powers-requires c =
    let t = c.tables_for-g in
    let P = c.requires.0.plain.family.placed in
    let many = n_most c.args.shape P in
    let most = tables_most t.result t.ensures.1 in
    (tables_least t.result t.ensures.1, most, t.ensures.2 (r_most c.args.shape P), omega arith)

pub loop-p-preserved : goal.loop-p-preserved
loop-p-preserved c =
    let l = c.loop-p in
    let x = c.point_of-x in
    let t = c.tables_for-g in
    let shape = c.args.shape in
    several_more (point shape) shape.r t.result l.p x.result l.plan _ (tables_most t.result t.ensures.1) x.ensures c.plan_powers.ensures l.invariant

pub returns : goal.returns
returns c =
    let l = c.loop-p in
    let t = c.tables_for-g in
    let shape = c.args.shape in
    several_all (point shape) shape.r shape.r t.result l.p shape.n l.plan refl t.ensures.0 (omega arith) l.invariant
