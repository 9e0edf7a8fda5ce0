use mathlib.Core.List.{List}
use Prim.Native.Nat.{ℕ, ◌+◌}
use Rattle.algebra.specs.Sequence.{at}
use Rattle.algebra.proofs.Filling.{Filled}
use Rattle.field.specs.Field.{xor_from}
use Rattle.tiles.proofs.add.Given as goal

abbrev pub entry : (t strips : List ℕ) → (o : ℕ) → ℕ → ℕ
entry t strips o i = xor_from 8 (at t i) (at strips (o + i))

abbrev pub invariant-loop-i : goal.invariant-loop-i
invariant-loop-i l = Filled (entry l.initial.t l.strips l.o) l.i l.initial.t l.t
