use mathlib.Core.Path.{ap₂, ◌∙◌}
use Rattle.code.specs.Shape.{point_at, point}
use Rattle.layout.proofs.point_of.Goals as goal

pub returns : goal.returns
unfolding point
returns c = c.point_at.ensures ∙ ap₂ (point_at c.args.shape) c.group_of.ensures.0 c.member_of.ensures.0
