use mathlib.Core.Path.{refl, ◌∙◌}
use native.Mathlib.Numerals.{add-one}
use Rattle.algebra.specs.Sequence.{at}
use Rattle.tiles.proofs.Planning.{planned_none, planned_more}
use Rattle.tiles.proofs.plan.Goals as goal

pub loop-j-init : goal.loop-j-init
loop-j-init c =
    ((refl, refl), planned_none c.args.weights.now c.args.l c.args.offsets.now c.args.counts.now c.requires.4)

pub loop-j-preserved : goal.loop-j-preserved
loop-j-preserved c =
    let l = c.loop-j in
    let p = c.plan_strip in
    let ws = c.args.weights.now in (
      (p.ensures.1 ∙ l.invariant.0.0, p.ensures.2 ∙ l.invariant.0.1),
      rw (add-one l.j)
          (planned_more ws c.args.l (at ws l.j) _ l.offsets p.new.offsets l.counts p.new.counts l.j refl p.ensures.0 refl l.invariant.1 p.ensures.3),
    )
