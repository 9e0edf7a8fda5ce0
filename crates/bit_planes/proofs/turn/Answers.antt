use mathlib.Core.Path.{subst}
use Rattle.bit_planes.specs.Plane.{Transposed}
use Rattle.bit_planes.proofs.Columns.{front_more}
use Rattle.bit_planes.proofs.turn.Goals as goal

pub loop-i-preserved : goal.loop-i-preserved
loop-i-preserved c =
    let l = c.loop-i in
    let a = c.args in
    let w = c.transposed-w.result in
    front_more a.from.now a.m a.o l.i a.to.now l.to w c.put_lane.new.t c.loop-i-test.true
    (subst (λ x. Transposed x w) c.lane_of-v.ensures c.transposed-w.ensures.1) c.put_lane.ensures l.invariant
