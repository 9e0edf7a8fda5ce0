use mathlib.Core.Path.{◌≡◌}
use mathlib.Core.List.{List}
use Prim.Native.Nat.{ℕ}
use Rattle.algebra.specs.Sequence.{count}
use Rattle.code.specs.declared.Shape.{Shape}
use Rattle.code.specs.Pass.{repairs}
use Rattle.code.proofs.Passing.{passed_at, mark_at}
use Rattle.mending.proofs.Spliced.{Upto}
use Rattle.mending.proofs.mend_groups.Given as goal

-- the word, the marks and the number of groups repaired after j groups
pub record Done (s : Shape) (ws ms : List ℕ) (j : ℕ) (ws' ms' : List ℕ) (number : ℕ) : Type 0 where
  pub word : Upto s (passed_at s ws ms) j ws ws'
  pub marks : Upto s (mark_at s ws ms) j ms ms'
  pub many : number ≡ count (repairs s ws ms) j

abbrev pub invariant-loop-j : goal.invariant-loop-j
invariant-loop-j l = Done l.shape l.initial.word l.initial.marks l.j l.word l.marks l.number
