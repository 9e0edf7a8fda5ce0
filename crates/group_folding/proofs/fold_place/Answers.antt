use mathlib.Core.Path.{◌≡◌, sym, ap, ◌∙◌, subst}
use mathlib.Core.List.{List}
use Prim.Native.Nat.{ℕ, ◌+◌, ◌*◌, ◌≤◌, ◌<◌}
use native.Mathlib.Nat.{zero-add}
use native.Mathlib.Omega.{arith}
use Rattle.code.specs.Shape.{groups}
use Rattle.code.proofs.Bounds.{n_most, groups_most}
use Rattle.lanes.specs.Lane.{shown}
use Rattle.tile_evaluation.specs.Step.{PlanAt, TablesAt, ValueWritten}
use Rattle.group_plans.specs.Plan.{blocks, tables_for, level_at}
use Rattle.group_plans.proofs.Several.{tables_most}
use Rattle.group_folding.specs.Fold.{PlaceFolded}
use Rattle.group_folding.proofs.Folding.{coefs_room, folded_more}
use Rattle.group_folding.proofs.fold_place.Goals as goal
use Rattle.group_folding.proofs.fold_place.Goals.{In-loop-j}

pub blocks_of-requires : goal.blocks_of-requires
blocks_of-requires c =
    let P = c.requires.0.plain.family in
    (P.placed, omega (arith, n_most c.args.shape P.placed, P.k_below))

-- the tile's place, and the plan's
place : (c : In-loop-j) → let a = c.args in let j = c.loop-j.j in
    (j * a.shape.r + a.b < 255) × (j ≤ 254)
place c =
    let a = c.args in
    let P = c.requires.0.plain.family.placed in
    let h : c.loop-j.j < groups a.shape = omega (arith, c.groups_of-groups.ensures, c.loop-j-test.true) in
    (coefs_room a.shape P c.loop-j.j a.b h c.requires.1, omega (arith, groups_most a.shape P))

planned : (c : In-loop-j) → let a = c.args in let j = c.loop-j.j in
    PlanAt (level_at a.shape j) (blocks a.shape) c.tables_for-g.result a.plan.now (j * 32)
planned c =
    let a = c.args in
    let j = c.loop-j.j in
    let g = c.tables_for-g.ensures.0 ∙ ap tables_for c.blocks_of.ensures.0 in
    let h : j < groups a.shape = omega (arith, c.groups_of-groups.ensures, c.loop-j-test.true) in
    subst (λ g. PlanAt (level_at a.shape j) (blocks a.shape) g a.plan.now (j * 32)) (sym g) (c.requires.3 j h)

pub overflow_mul-o-in-loop-j : goal.overflow_mul-o-in-loop-j
overflow_mul-o-in-loop-j c = omega (arith, place (goal.at.overflow_mul-o-in-loop-j c).In-loop-j)

pub write_value-requires : goal.write_value-requires
write_value-requires c =
    let f = c.tables_for-g.ensures in
    let p = place (goal.at.write_value-requires c).In-loop-j in
    let small : c.tables_for-g.result ≤ 4 = tables_most c.tables_for-g.result f.1 in (
      f.1,
      omega (arith, c.requires.2, p, small),
      (planned (goal.at.write_value-requires c).In-loop-j).1,
      omega (arith, c.requires.4, small),
      omega (arith, p),
    )

pub loop-j-preserved : goal.loop-j-preserved
loop-j-preserved c =
    let a = c.args in
    let l = c.loop-j in
    let f = c.tables_for-g.ensures in
    let n : blocks a.shape ≤ c.tables_for-g.result * 4 =
    subst (λ n. n ≤ c.tables_for-g.result * 4) c.blocks_of.ensures.0 (f.2 (omega (arith, c.requires.0.few, c.blocks_of.ensures.0)))
    in
    let w : (xs : List ℕ) → TablesAt xs 0 c.tables_for-g.result a.table.now → ValueWritten (level_at a.shape l.j) (blocks a.shape) (λ e. shown xs (0 + e * 256)) _ l.coefs _ =
    λ xs T. c.write_value.ensures (level_at a.shape l.j) (blocks a.shape) 0 xs n (planned (goal.at.loop-j-preserved c).In-loop-j) T
    in
    λ xs T.
    folded_more a.shape a.b (λ e. shown xs (e * 256)) l.j (λ e. shown xs (0 + e * 256)) a.coefs.now l.coefs _
    c.requires.0.plain.family.placed.r_least (λ e t i. ap (λ o. shown xs o t i) (zero-add (e * 256))) (l.invariant xs T) (w xs T)

pub returns : goal.returns
returns c =
    let a = c.args in
    let l = c.loop-j in
    let g = c.tables_for-g.ensures.0 ∙ ap tables_for c.blocks_of.ensures.0 in
    let e : l.j ≡ groups a.shape = omega (arith, c.groups_of-groups.ensures) in
    (λ xs T. subst (λ n. PlaceFolded a.shape a.b n (λ e. shown xs (e * 256)) a.coefs.now l.coefs) e (l.invariant xs (subst (λ g. TablesAt xs 0 g a.table.now) (sym g) T)), omega arith)
