use mathlib.Core.Path.{refl}
use Prim.Native.Nat.{◌+◌, ◌*◌}
use Rattle.field.proofs.Elem.{zero_below}
use Rattle.linear.proofs.Newcomer.{start, filled_echelon}
use Rattle.annihilator.proofs.Gaps.{filled_below, gathered_more}
use Rattle.annihilator.proofs.take_gap.Goals as goal

pub insert-requires : goal.insert-requires
unfolding start
insert-requires c =
    let a = c.args in
    let d = c.fill_row in
    let G = c.requires.3 in (
      filled_echelon a.field a.t a.work.now d.new.target G.echelon d.ensures.size,
      filled_below a.field a.t (a.j * a.size + a.r) a.row.now c.requires.2 a.work.now d.new.target G.echelon d.ensures,
      zero_below a.field,
    )

pub returns : goal.returns
unfolding start
returns c =
    let a = c.args in
    let d = c.fill_row in
    let t = c.insert in
    let G = c.requires.3 in
    gathered_more a.field a.t (a.j * a.size + a.r) a.row.now c.requires.2 a.work.now d.new.target G.echelon d.ensures
    a.size a.r a.j t.new.work t.result refl G t.ensures
