use mathlib.Core.Path.{◌≡◌, sym, ap, subst, ◌∙◌}
use Prim.Native.Nat.{◌*◌, ◌<◌}
use native.Mathlib.Omega.{arith}
use Rattle.algebra.proofs.Strides.{row_step}
use Rattle.lanes.specs.Lane.{shown}
use Rattle.code.specs.Shape.{size, group, point}
use Rattle.code.proofs.Places.{group_slot_at, slot_inside}
use Rattle.code.proofs.Bounds.{r_most}
use Rattle.tile_evaluation.specs.Step.{PlanAt, TablesAt}
use Rattle.group_plans.proofs.Several.{tables_most}
use Rattle.group_values.specs.Value.{GroupStored}
use Rattle.group_values.proofs.Storing.{slot_valued, group_more, plan_room}
use Rattle.group_values.proofs.write_group.Goals as goal
use Rattle.group_values.proofs.write_group.Goals.{After-slot_at-p}

-- the slot is one of the code's
inside : (c : After-slot_at-p) → c.slot_at-p.result < c.args.shape.n
inside c =
    let P = c.requires.0.plain.family.placed in
    let i : c.loop-i.i < size c.args.shape = omega (arith, c.size_of-size.ensures) in
    omega (arith, c.slot_at-p.ensures, slot_inside c.args.shape P c.requires.0.whole_groups c.args.group c.loop-i.i c.requires.1 i)

pub write_value-requires : goal.write_value-requires
write_value-requires c =
    let P = c.requires.0.plain.family.placed in
    let p = c.slot_at-p in
    let t = c.tables_for-g in
    let m = inside (goal.at.write_value-requires c).After-slot_at-p in (
      t.ensures.1,
      omega (arith, plan_room c.args.shape P t.result t.ensures.1 p.result m, c.requires.2),
      λ d h. (c.requires.3 p.result m).1 d (omega (arith, t.ensures.0)),
      omega (arith, tables_most t.result t.ensures.1, c.requires.4),
      omega arith,
    )

pub store-requires : goal.store-requires
store-requires c =
    let m = inside (goal.at.store-requires c).After-slot_at-p in
    (c.requires.6, c.requires.7, omega (arith, row_step c.slot_at-p.result c.args.shape.n c.args.l m), omega arith)

pub loop-i-preserved : goal.loop-i-preserved
loop-i-preserved c =
    let a = c.args in
    let P = c.requires.0.plain.family.placed in
    let l = c.loop-i in
    let p = c.slot_at-p in
    let t = c.tables_for-g in
    let i : l.i < size a.shape = omega (arith, c.loop-i-test.true, c.size_of-size.ensures) in
    let m = inside (goal.at.loop-i-preserved c).After-slot_at-p in
    let e = ap (group a.shape) p.ensures ∙ group_slot_at a.shape P a.group l.i c.requires.1 i in
    λ xs h.
    let W =
    c.write_value.ensures (point a.shape p.result) a.shape.r (a.group * a.shape.r * 256) xs (t.ensures.2 (r_most a.shape P))
    (subst (λ g. PlanAt (point a.shape p.result) a.shape.r g a.plan.now (p.result * 32)) (sym t.ensures.0) (c.requires.3 p.result m))
    (subst (λ g. TablesAt xs (a.group * a.shape.r * 256) g a.table.now) (sym t.ensures.0) h)
    in
    group_more a.shape P a.l a.c c.requires.6 (λ m. shown xs (m * 256)) a.group l.i p.result _ a.codewords.now l.codewords _ p.ensures
    (l.invariant xs h) c.store.ensures (λ k d u v. W.own k d u v ∙ slot_valued a.shape xs p.result a.group k d e)

pub returns : goal.returns
returns c =
    let l = c.loop-i in
    let e : l.i ≡ size c.args.shape = omega (arith, c.size_of-size.ensures) in (
      omega arith,
      λ xs t. subst (λ n. GroupStored c.args.shape c.args.l c.args.c c.args.group n (λ m. shown xs (m * 256)) c.args.codewords.now l.codewords) e (l.invariant xs t),
      omega arith,
    )
