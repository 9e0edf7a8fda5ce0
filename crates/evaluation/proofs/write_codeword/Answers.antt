use mathlib.Core.Path.{◌≡◌}
use native.Mathlib.Omega.{arith}
use Rattle.code.specs.Shape.{groups}
use Rattle.evaluation.proofs.Groups.{groups_all}
use Rattle.evaluation.proofs.write_codeword.Goals as goal

pub returns : goal.returns
returns c =
    let l = c.loop-group in
    let z : l.group ≡ groups c.args.shape = omega (arith, c.groups_of-group-end.ensures) in
    groups_all c.args.shape c.args.c c.args.row.now c.requires.0 l.group l.codeword z l.invariant
