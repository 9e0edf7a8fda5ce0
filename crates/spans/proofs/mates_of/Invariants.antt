use mathlib.Core.List.{List}
use Prim.Native.Nat.{ℕ, ◌*◌}
use lib.ListN.{replicate}
use Rattle.algebra.specs.Sequence.{at}
use Rattle.algebra.proofs.Filling.{Filled}
use Rattle.layout.specs.Step.{mate_member}
use Rattle.spans.proofs.mates_of.Given as goal

-- the symbol of mate k
abbrev pub symbol_at : (part : List ℕ) → (step member k : ℕ) → ℕ
symbol_at xs t i k = at xs (mate_member i k * t)

abbrev pub invariant-loop-i : goal.invariant-loop-i
invariant-loop-i l = Filled (symbol_at l.part l.step l.member) l.i (replicate 16 0) l.symbols
