use Rattle.plane_sums.proofs.Levels.{sum_lane_none, sum_lane_more}
use Rattle.plane_sums.proofs.entry_lane.Goals as goal

pub loop-h-init : goal.loop-h-init
loop-h-init g c = sum_lane_none c.args.plan.now c.args.m c.args.table.now c.args.i

pub loop-h-preserved : goal.loop-h-preserved
loop-h-preserved g c =
    let a = c.args in
    sum_lane_more a.plan.now a.m a.table.now a.i c.loop-h.h c.loop-h.z c.lane_of-e.result _ c.lane_of-e.ensures c.added-z.ensures c.loop-h.invariant
