use mathlib.Core.Path.{sym, ap, ◌∙◌}
use mathlib.Core.List.{◌++◌}
use lib.ListN.{drop}
use lib.Seq.{length-take-le}
use Prim.Native.Nat.{◌+◌, ◌-◌, ◌<◌}
use native.Mathlib.Omega.{arith}
use Rattle.field.specs.Field.{γ, minus}
use Rattle.field.proofs.Laws.{laws}
use Rattle.field.proofs.Elem.{power_below, gamma_below}
use Rattle.code.specs.Shape.{room, missing}
use Rattle.code.specs.Basis.{vanishing}
use Rattle.code.proofs.Places.{slot_room}
use Rattle.code.proofs.Points.{point_below}
use Rattle.code.proofs.Vanishing.{vanish_below}
use Rattle.algebra.proofs.Splicing.{splice}
use Rattle.generator_matrix.specs.Step.{run, blocks}
use Rattle.generator_matrix.proofs.Runs.{written_part, written_front, run_from}
use Rattle.generator_matrix.proofs.Generators.{lead_worked, row_whole, row_short}
use Rattle.generator_matrix.proofs.fill_row.Goals as goal
use Rattle.generator_matrix.proofs.fill_row.Goals.{Start}

inside : (c : Start) → c.args.slot < room c.args.shape
inside c = slot_room c.args.shape c.requires.0.family.placed c.args.slot c.requires.1

pub point_of-x-requires : goal.point_of-x-requires
point_of-x-requires c =
    (c.requires.0.family.placed, inside (goal.at.point_of-x-requires c).Start)

pub group_of-requires : goal.group_of-requires
group_of-requires c = (c.requires.0.family.placed, inside (goal.at.group_of-requires c).Start)

pub fill_blocks-requires : goal.fill_blocks-requires
fill_blocks-requires c =
    let f = c.args.shape.field in (
      rw c.point_of-x.ensures (point_below c.args.shape c.args.slot),
      rw c.group_power-power.ensures (power_below f γ _ (gamma_below f)),
      c.requires.0.family.placed.r_least,
    )

pub returns-then-missing-eq0 : goal.returns-then-missing-eq0
returns-then-missing-eq0 c =
    let a = c.args in
    let h = a.shape in
    let x = c.point_of-x in
    let j = c.group_of in
    let y = c.group_power-power in
    let t = c.missing_of-missing in
    let xs = c.fill_blocks.new.row in
    row_whole h c.requires.0 a.slot x.result j.result y.result t.result c.requires.1 x.ensures j.ensures.0 y.ensures t.ensures a.row.now (xs ++ drop h.k a.row.now)
    c.if-missing-eq0.true (written_front (blocks h.field x.result y.result 0 h.r) h.k a.row.now xs c.requires.2 c.fill_blocks.ensures)

pub overflow_sub-lead : goal.overflow_sub-lead
overflow_sub-lead c =
    let t = c.missing_of-missing in
    (lead_worked c.args.shape c.requires.0 t.result t.ensures c.if-missing-eq0.false).0

pub fill_blocks-requires-2 : goal.fill_blocks-requires-2
fill_blocks-requires-2 c =
    let f = c.args.shape.field in
    let t = c.missing_of-missing in (
      rw c.point_of-x.ensures (point_below c.args.shape c.args.slot),
      rw c.sub-good.ensures ((laws f).minus_below _ _),
      c.requires.0.family.placed.r_least,
    )

pub slice_bounds-fill_blocks-end-3 : goal.slice_bounds-fill_blocks-end-3
slice_bounds-fill_blocks-end-3 c =
    let a = c.args in
    let t = c.missing_of-missing in
    sym (length-take-le (a.shape.k + t.result - a.shape.r) a.row.now (omega (arith, lead_worked a.shape c.requires.0 t.result t.ensures c.if-missing-eq0.false, c.requires.2)))

pub fill_run-requires : goal.fill_run-requires
unfolding vanishing
fill_run-requires c =
    let h = c.args.shape in
    let t = c.missing_of-missing in (
      rw c.point_of-x.ensures (point_below h c.args.slot),
      rw c.vanishing_at-vanishing.ensures (vanish_below h _ (missing h) h.n),
    )

pub returns : goal.returns
returns c =
    let a = c.args in
    let h = a.shape in
    let x = c.point_of-x in
    let j = c.group_of in
    let y = c.group_power-power in
    let t = c.missing_of-missing in
    let some = c.if-missing-eq0.false in
    let g = c.sub-good in
    let v = c.vanishing_at-vanishing in
    let xs = c.fill_blocks-2.new.row in
    let ys = c.fill_run.new.row in
    let lead = h.k + t.result - h.r in
    let b = xs ++ drop lead a.row.now in
    let d = lead_worked h c.requires.0 t.result t.ensures some in
    let W = written_front (blocks h.field x.result g.result 1 h.r) lead a.row.now xs (omega (arith, d, c.requires.2)) c.fill_blocks-2.ensures in
    row_short h c.requires.0 a.slot x.result j.result y.result t.result c.requires.1 x.ensures j.ensures.0 y.ensures t.ensures a.row.now
    (splice lead (h.k - lead) b ys) some g.result v.result lead b
    (g.ensures ∙ ap (minus h.field y.result) c.constant_of.ensures) v.ensures d.1 W
    (written_part (run h.field x.result v.result lead) (run h.field x.result v.result 0) lead (h.k - lead) h.k b ys (omega (arith, d, W.size, c.requires.2)) (omega (arith, d))
    c.fill_run.ensures (λ i l. run_from h.field x.result v.result lead i))
