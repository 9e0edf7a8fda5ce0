use mathlib.Core.Path.{refl, ap, ◌∙◌}
use native.Mathlib.Numerals.{add-one}
use Rattle.field.specs.Field.{power, times}
use Rattle.arithmetic.proofs.power_of.Goals as goal

pub loop-init : goal.loop-init
unfolding power
loop-init c = refl

pub loop-preserved : goal.loop-preserved
unfolding power
loop-preserved c =
    let a = c.args in
    rw add-one (c.mul-p.ensures ∙ ap (times a.field a.a) c.loop.invariant)
