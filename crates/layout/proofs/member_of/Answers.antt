use mathlib.Core.Path.{refl}
use mathlib.Core.Bool.{true, false}
use native.Mathlib.Omega.{arith}
use Rattle.code.specs.Shape.{size, groups}
use Rattle.code.proofs.Places.{size_least, groups_least, member_below}
use Rattle.layout.proofs.Numbers.{wired_yes, wired_no, member_is}
use Rattle.layout.proofs.member_of.Goals as goal

pub nonzero_div-result : goal.nonzero_div-result
nonzero_div-result c = omega (arith, c.groups_of.ensures, groups_least c.args.shape c.requires.0)

pub returns-then-shape-eq1 : goal.returns-then-shape-eq1
returns-then-shape-eq1 c =
    let s = c.args.shape in
    let is = member_is s true (wired_yes s c.if-shape-eq1.true) c.args.place c.groups_of.result (size s) c.groups_of.ensures refl in
    (is, omega (arith, is, member_below s c.requires.0 c.args.place c.requires.1))

pub nonzero_rem-result : goal.nonzero_rem-result
nonzero_rem-result c = omega (arith, c.size_of.ensures, size_least c.args.shape c.requires.0)

pub returns : goal.returns
returns c =
    let s = c.args.shape in
    let is = member_is s false (wired_no s c.if-shape-eq1.false) c.args.place (groups s) c.size_of.result refl c.size_of.ensures in
    (is, omega (arith, is, member_below s c.requires.0 c.args.place c.requires.1))
