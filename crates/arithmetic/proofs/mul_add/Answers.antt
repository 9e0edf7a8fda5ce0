use mathlib.Core.Path.{ap, ◌∙◌}
use Rattle.field.specs.Field.{plus}
use Rattle.arithmetic.proofs.mul_add.Goals as goal

pub returns : goal.returns
returns c =
    let a = c.args in
    c.add.ensures ∙ ap (plus a.field a.a) c.mul-p.ensures
