use mathlib.Core.List.{List}
use Prim.Native.Nat.{ℕ, ◌+◌, ◌*◌}
use Rattle.algebra.specs.Sequence.{at}
use Rattle.algebra.proofs.Filling.{Filled}
use Rattle.strip_columns.proofs.take_column.Given as goal

abbrev pub entry : (strips : List ℕ) → (l c : ℕ) → ℕ → ℕ
entry strips l c m = at strips (m * l + c)

abbrev pub invariant-loop-m : goal.invariant-loop-m
invariant-loop-m l = Filled (entry l.strips l.l l.c) l.m l.initial.buffer l.buffer
