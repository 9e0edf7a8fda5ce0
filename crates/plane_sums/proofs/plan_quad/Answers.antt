use mathlib.Core.Path.{◌≡◌, sym, ap, ◌∙◌}
use Prim.Native.Nat.{ℕ, ◌+◌, ◌*◌, ◌-◌, ◌<◌}
use native.Mathlib.Nat.{add-zero}
use native.Mathlib.Omega.{arith}
use lib.ListN.{length}
use Rattle.algebra.specs.Sequence.{at}
use Rattle.lanes.specs.Lane.{bit}
use Rattle.plane_sums.specs.Step.{nibble}
use Rattle.plane_sums.proofs.Planning.{planning_more, step_below}
use Rattle.plane_sums.proofs.plan_quad.Goals as goal

pub loop-l-preserved : goal.loop-l-preserved
loop-l-preserved c =
    let l = c.loop-l in
    let a = c.args in
    let w : ℕ → ℕ = λ i. at a.weights.now (a.x + i) in
    let b : ℕ → ℕ = bit (7 - l.l) in
    let first : at a.weights.now a.x ≡ w 0 = ap (at a.weights.now) (sym (add-zero a.x)) in
    let value : c.nibble.result ≡ nibble l.l w = c.nibble.ensures ∙ ap (λ n. b n + 2 * b (w 1) + 4 * b (w 2) + 8 * b (w 3)) first in
    let within : a.m + l.l * a.d < length l.plan = omega (arith, step_below l.l a.d c.loop-l-test.true) in
    planning_more w a.m a.d l.l _ a.plan.now l.plan c.requires.1 within value l.invariant
