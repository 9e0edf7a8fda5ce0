use mathlib.Core.Path.{◌≡◌}
use native.Mathlib.Omega.{arith}
use Rattle.code.specs.Shape.{groups, room}
use Rattle.fitting.proofs.fill_points.Goals as goal

pub returns : goal.returns
unfolding room
returns c =
    let l = c.loop-group in
    let e : l.group ≡ groups c.args.shape = omega (arith, c.groups_of-groups.ensures) in
    rw e at l.invariant.1
