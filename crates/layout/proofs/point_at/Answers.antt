use mathlib.Core.Path.{◌∙◌}
use Rattle.layout.proofs.Numbers.{worked_below, worked_point}
use Rattle.layout.proofs.point_at.Goals as goal

pub member_point-requires : goal.member_point-requires
member_point-requires c =
    let w = c.width_of in
    (worked_below c.args.shape c.requires.0 c.args.group c.args.member w.result c.requires.1 c.requires.2 w.ensures)

pub returns : goal.returns
returns c =
    let a = c.args in
    let w = c.width_of in
    c.member_point.ensures ∙ worked_point a.shape a.group a.member w.result w.ensures
