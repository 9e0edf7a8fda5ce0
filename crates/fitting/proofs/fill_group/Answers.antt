use native.Mathlib.Omega.{arith}
use lib.ListN.{length-set}
use mathlib.Core.Path.{◌∙◌}
use Rattle.fitting.proofs.Pointing.{slot_byte, pointed_more}
use Rattle.fitting.proofs.fill_group.Goals as goal

pub bounds-points-slot : goal.bounds-points-slot
bounds-points-slot c =
    let l = c.loop-i in
    omega (
      arith,
      slot_byte c.args.shape c.requires.0.plain.family.placed c.args.group l.i c.requires.1 (omega (arith, c.size_of-size.ensures)),
      c.slot_at-slot.ensures,
    )

pub loop-i-preserved : goal.loop-i-preserved
loop-i-preserved c =
    let a = c.args in
    let P = c.requires.0.plain.family.placed in
    let l = c.loop-i in
    let e = c.size_of-size.ensures in
    let x = c.slot_at-slot in
    let v = c.point_at in (
      length-set l.points x.result v.result ∙ l.invariant.0,
      pointed_more a.shape P a.group l.i c.requires.1 (omega (arith, e)) x.result v.result l.points x.ensures v.ensures
          (omega (arith, l.invariant.0, x.ensures, slot_byte a.shape P a.group l.i c.requires.1 (omega (arith, e)))) l.invariant.1,
    )
