use mathlib.Core.Path.{◌≡◌, ap, ◌∙◌}
use Prim.Native.Nat.{◌+◌, ◌*◌}
use native.Mathlib.Nat.{le_refl}
use native.Mathlib.Omega.{arith}
use lib.ListN.{length}
use Rattle.algebra.specs.Sequence.{at, tabulate}
use Rattle.field.specs.Field.{plus, times}
use Rattle.columns.proofs.Columns.{sum_of, sums_none, sums_more, sums_all}
use Rattle.columns.proofs.plain_columns.Goals as goal

pub loop-j-init : goal.loop-j-init
loop-j-init c =
    let a = c.args in
    c.clear.ensures ∙ sums_none a.field a.weights.now (length a.weights.now) (length a.output.now) a.strips.now

pub loop-j-preserved : goal.loop-j-preserved
loop-j-preserved c =
    let a = c.args in
    let l = c.loop-j in
    let j = l.j in
    c.add_strip.ensures
    ∙ ap (tabulate (λ i. plus a.field (at l.output i) (times a.field (at a.weights.now j) (at a.strips.now (j * length a.output.now + i))))) (l.auto.output ∙ c.clear.auto.s)
    ∙ sums_more a.field a.weights.now (length a.weights.now) (length a.output.now) a.strips.now j (omega arith) (le_refl _) l.output l.invariant

pub returns : goal.returns
returns c =
    let a = c.args in
    let l = c.loop-j in
    let e : l.j ≡ length a.weights.now = omega arith in
    l.invariant
    ∙ ap (λ j. tabulate (sum_of a.field a.weights.now (length a.weights.now) (length a.output.now) a.strips.now j) (length a.output.now)) e
    ∙ sums_all a.field a.weights.now (length a.weights.now) (length a.output.now) a.strips.now (le_refl _)
