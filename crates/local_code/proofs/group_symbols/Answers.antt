use mathlib.Core.Path.{sym}
use native.Mathlib.Omega.{arith}
use lib.ListN.{take}
use lib.Seq.{length-take-le}
use Rattle.code.proofs.Bounds.{r_most}
use Rattle.local_code.proofs.Symbols.{group_symbols_are}
use Rattle.local_code.proofs.Horner.{values_front}
use Rattle.local_code.proofs.group_symbols.Goals as goal

pub slice_bounds-local-end : goal.slice_bounds-local-end
slice_bounds-local-end c = omega (arith, r_most c.args.shape c.requires.0, c.local_polynomial-local.ensures.0)

pub slice_bounds-values_at-end : goal.slice_bounds-values_at-end
slice_bounds-values_at-end c =
    let L = c.local_polynomial-local in
    sym (length-take-le c.args.shape.r L.result (omega (arith, r_most c.args.shape c.requires.0, L.ensures.0)))

pub values_at-requires : goal.values_at-requires
values_at-requires c =
    let X = c.points_of-points in
    let n = c.size_of-size in
    (omega (arith, c.requires.0.size_most, n.ensures, X.ensures.room, length-take-le n.result X.result))

pub returns : goal.returns
returns c =
    let a = c.args in
    let P = c.requires.0 in
    let L = c.local_polynomial-local in
    let X = c.points_of-points in
    let n = c.size_of-size in
    let cs = take a.shape.r L.result in
    let vs = c.values_at in
    group_symbols_are a.shape P a.c a.row.now a.group n.result c.group_power-power.result c.sub-y.result X.result cs vs.result
    c.requires.1 n.ensures X.ensures c.group_power-power.ensures c.sub-y.ensures L.ensures.1
    (values_front a.shape.field cs X.result vs.result n.result (omega (arith, P.size_most, n.ensures, X.ensures.room)) vs.ensures)
