use mathlib.Core.Bool.{cond}
use mathlib.Core.List.{List}
use Prim.Native.Nat.{ℕ}
use Rattle.algebra.specs.Sequence.{at}
use Rattle.algebra.proofs.Filling.{Filled}
use Rattle.code.specs.Decoding.{lost}
use Rattle.promise.proofs.lose.Given as goal

-- what slot p comes to hold
abbrev pub slot : (codeword marks other : List ℕ) → ℕ → ℕ
slot cs ks os p = cond (lost ks p) (at os p) (at cs p)

abbrev pub invariant-loop-p : goal.invariant-loop-p
invariant-loop-p l = Filled (slot l.codeword l.marks l.other) l.p l.initial.word l.word
