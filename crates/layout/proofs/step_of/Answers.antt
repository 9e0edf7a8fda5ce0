use mathlib.Core.Path.{refl}
use mathlib.Core.Bool.{true, false}
use Rattle.code.specs.Shape.{groups}
use Rattle.layout.proofs.Numbers.{wired_yes, wired_no, step_is}
use Rattle.layout.proofs.step_of.Goals as goal

pub returns-then-shape-eq1 : goal.returns-then-shape-eq1
returns-then-shape-eq1 c = let s = c.args.shape in step_is s true (wired_yes s c.if-shape-eq1.true) c.groups_of.result c.groups_of.ensures

pub returns : goal.returns
returns c = let s = c.args.shape in step_is s false (wired_no s c.if-shape-eq1.false) (groups s) refl
