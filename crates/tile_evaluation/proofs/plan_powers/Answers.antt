use native.Mathlib.Omega.{arith}
use Rattle.tile_evaluation.proofs.Planning.{planning_more, planning_all}
use Rattle.tile_evaluation.proofs.plan_powers.Goals as goal

pub loop-h-preserved : goal.loop-h-preserved
loop-h-preserved c =
    let l = c.loop-h in
    let a = c.args in
    let w = c.power_weights-weights in
    planning_more a.x a.n a.g a.m l.h w.result a.plan.now l.plan _ c.loop-h-test.true w.ensures c.requires.1 c.plan_quad.ensures l.invariant

pub returns : goal.returns
returns c =
    let l = c.loop-h in
    let a = c.args in
    planning_all a.x a.n a.g a.m l.h a.plan.now l.plan c.requires.0 (omega arith) l.invariant
