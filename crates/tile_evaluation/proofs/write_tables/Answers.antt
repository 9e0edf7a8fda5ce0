use Rattle.tile_evaluation.proofs.Tabling.{tabling_more}
use Rattle.tile_evaluation.proofs.write_tables.Goals as goal

pub loop-h-preserved : goal.loop-h-preserved
loop-h-preserved c =
    let l = c.loop-h in
    let a = c.args in
    tabling_more a.tiles.now a.m l.h a.table.now l.table _ c.write_sums.ensures l.invariant
