use mathlib.Core.List.{List}
use Prim.Native.Nat.{ℕ}
use Rattle.algebra.specs.Sequence.{at}
use Rattle.algebra.proofs.Filling.{Filled}
use Rattle.field.specs.Field.{doubled}
use Rattle.tiles.proofs.double.Given as goal

abbrev pub entry : List ℕ → ℕ → ℕ
entry t i = doubled (at t i)

abbrev pub invariant-loop-x : goal.invariant-loop-x
invariant-loop-x l = Filled (entry l.initial.t) l.x-index l.initial.t l.t
