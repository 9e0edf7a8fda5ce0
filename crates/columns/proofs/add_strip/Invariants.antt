use mathlib.Core.List.{List}
use Prim.Native.Nat.{ℕ, ◌+◌}
use Rattle.algebra.specs.Sequence.{at}
use Rattle.algebra.proofs.Filling.{Filled}
use Rattle.field.specs.Field.{plus, times}
use Rattle.columns.proofs.add_strip.Given as goal

abbrev pub entry : (field w : ℕ) → (strips : List ℕ) → (o : ℕ) → (output : List ℕ) → ℕ → ℕ
entry f w xs o ys i = plus f (at ys i) (times f w (at xs (o + i)))

abbrev pub invariant-loop-i : goal.invariant-loop-i
invariant-loop-i l = Filled (entry l.field l.w l.strips l.o l.initial.output) l.i l.initial.output l.output
