use Rattle.linear.proofs.Newcomer.{start, filled_echelon}
use Rattle.elimination.proofs.Equations.{filled_below, taken}
use Rattle.code.proofs.Fits.{kept_symbol}
use Rattle.elimination.proofs.take_slot.Goals as goal

pub insert-requires : goal.insert-requires
unfolding start
insert-requires c =
    let a = c.args in
    let d = c.fill_row in (
      filled_echelon a.shape.field a.shape.k a.work.now d.new.row c.requires.3 d.ensures.size,
      filled_below a.shape a.p c.requires.0.family a.work.now d.new.row c.requires.3 d.ensures,
      kept_symbol a.shape a.word.now a.marks.now c.requires.2.kept a.p c.requires.1 c.if-lost.false,
    )

pub returns : goal.returns
unfolding start
returns c =
    let a = c.args in
    let d = c.fill_row in
    let t = c.insert in
    taken a.shape a.p c.requires.0.family a.work.now d.new.row c.requires.3 d.ensures a.word.now a.marks.now t.new.work t.result
    c.if-lost.false t.ensures
