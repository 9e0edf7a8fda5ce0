use Rattle.plane_sums.proofs.Tables.{doubling_more}
use Rattle.plane_sums.proofs.double_sums.Goals as goal

pub loop-y-preserved : goal.loop-y-preserved
loop-y-preserved c =
    let l = c.loop-y in
    let a = c.args in
    doubling_more a.tiles.now a.a a.o a.h l.y a.table.now l.table _ c.loop-y-test.true c.add_to.ensures l.invariant
