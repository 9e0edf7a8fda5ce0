use mathlib.Core.Path.{sym, ap, ◌∙◌}
use Prim.Native.Nat.{◌+◌, ◌*◌}
use native.Mathlib.Omega.{arith}
use borrow.Author.Tests.{eq-eqb, ne_eqb}
use Rattle.algebra.specs.Sequence.{at}
use Rattle.algebra.proofs.Counting.{count_zero, count_yes, count_no, count_most}
use Rattle.code.specs.Decoding.{lost}
use Rattle.questions.proofs.losses_from.Invariants.{lost_at}
use Rattle.questions.proofs.losses_from.Goals as goal
use Rattle.questions.proofs.losses_from.Goals.{then-is_lost, else-is_lost}

pub loop-i-init : goal.loop-i-init
loop-i-init c = let a = c.args in sym (count_zero (lost_at a.marks.now a.first a.step))

pub overflow_add-lost : goal.overflow_add-lost
overflow_add-lost c =
    let l = c.loop-i in
    let a = c.args in
    omega (arith, count_most (lost_at a.marks.now a.first a.step) l.i, c.loop-i-test.true)

pub loop-i-preserved : goal.loop-i-preserved
unfolding lost
loop-i-preserved c =
    let a = c.args in
    let l = c.loop-i in
    let f = lost_at a.marks.now a.first a.step in
    let x = at a.marks.now (a.first + l.i * a.step) in
    elim c.if-is_lost.branch [
      | then-is_lost w ↦ w.lost-is ∙ ap (λ n. n + 1) l.invariant ∙ count_yes f l.i (eq-eqb x 1 w.if-is_lost.true)
      | else-is_lost w ↦ w.lost-is ∙ l.invariant ∙ count_no f l.i (ne_eqb x 1 w.if-is_lost.false)
    ]
