use mathlib.Core.Path.{sym, ◌∙◌}
use native.Mathlib.Omega.{arith}
use Rattle.code.proofs.Places.{size_least}
use Rattle.code.proofs.Bounds.{n_most}
use Rattle.code.proofs.Mates.{members_whole}
use Rattle.layout.proofs.Numbers.{wired_yes, wired_no, group_starts, members_left, members_full}
use Rattle.layout.proofs.members_of.Goals as goal

pub returns-then-wiring-eq1 : goal.returns-then-wiring-eq1
returns-then-wiring-eq1 c =
    let s = c.args.shape in
    let P = c.requires.0 in
    let z = c.size_of-size.ensures in
    (z ∙ sym (members_whole s P c.args.group c.requires.1 (P.wired_whole (wired_yes s c.if-wiring-eq1.true))), omega (arith, z, size_least s P), omega (arith, z))

pub overflow_mul-left : goal.overflow_mul-left
overflow_mul-left c =
    let s = c.args.shape in
    omega (arith, group_starts s c.requires.0 (wired_no s c.if-wiring-eq1.false) c.args.group c.requires.1 c.size_of-size.result c.size_of-size.ensures, n_most s c.requires.0)

pub overflow_sub-left : goal.overflow_sub-left
overflow_sub-left c =
    let s = c.args.shape in
    omega (arith, group_starts s c.requires.0 (wired_no s c.if-wiring-eq1.false) c.args.group c.requires.1 c.size_of-size.result c.size_of-size.ensures)

pub returns-then-left-size : goal.returns-then-left-size
returns-then-left-size c =
    let s = c.args.shape in
    let P = c.requires.0 in
    let g = group_starts s P (wired_no s c.if-wiring-eq1.false) c.args.group c.requires.1 c.size_of-size.result c.size_of-size.ensures in
    let is = members_left s P (wired_no s c.if-wiring-eq1.false) c.args.group c.requires.1 c.size_of-size.result c.size_of-size.ensures c.if-left-size.true in
    (sym is, omega (arith, g), omega (arith, c.size_of-size.ensures))

pub returns : goal.returns
returns c =
    let s = c.args.shape in
    let P = c.requires.0 in
    let z = c.size_of-size.ensures in
    let is = members_full s P (wired_no s c.if-wiring-eq1.false) c.args.group c.requires.1 c.size_of-size.result z (omega arith) in
    (z ∙ sym is, omega (arith, z, size_least s P), omega (arith, z))
