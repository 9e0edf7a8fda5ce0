use Prim.Native.Nat.{ℕ, ◌+◌, ◌*◌}
use lib.ListN.{replicate}
use Rattle.algebra.proofs.Filling.{Filled}
use Rattle.field.specs.Field.{γ, minus, power}
use Rattle.layout.specs.Step.{mate_steps}
use Rattle.weights.proofs.weights_of.Given as goal

-- weight k, by the numbers that were worked out
abbrev pub entry : (field size member width k : ℕ) → ℕ
entry f t o w k = minus f 0 (power f γ (0 + mate_steps t o k * w))

abbrev pub invariant-loop-i : goal.invariant-loop-i
invariant-loop-i l = Filled (entry l.field l.size l.member l.width) l.i (replicate 16 0) l.weights
