use Rattle.plane_sums.proofs.Tables.{sums_written}
use Rattle.plane_sums.proofs.write_sums.Goals as goal

pub returns : goal.returns
returns c =
    let a = c.args in
    sums_written a.tiles.now a.m a.o a.table.now _ _ _ _ _ c.clear_tile.ensures
    c.double_sums.ensures c.double_sums-2.ensures c.double_sums-3.ensures c.double_sums-4.ensures
