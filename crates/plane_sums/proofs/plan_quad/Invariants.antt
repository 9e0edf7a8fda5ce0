use Prim.Native.Nat.{◌+◌}
use Rattle.algebra.specs.Sequence.{at}
use Rattle.plane_sums.proofs.Planning.{Planning}
use Rattle.plane_sums.proofs.plan_quad.Given as goal

abbrev pub invariant-loop-l : goal.invariant-loop-l
invariant-loop-l l = Planning (λ i. at l.weights (l.x + i)) l.m l.d l.l l.initial.plan l.plan
