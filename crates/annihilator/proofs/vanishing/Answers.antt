use Rattle.annihilator.proofs.Places.{vanishes_none}
use Rattle.annihilator.proofs.vanishing.Goals as goal

pub loop-i-init : goal.loop-i-init
loop-i-init c = vanishes_none c.args.field c.args.points.now c.args.marks.now c.args.row.now c.requires.0 c.requires.1
