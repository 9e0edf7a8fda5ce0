use mathlib.Core.Path.{◌≡◌}
use Prim.Native.Nat.{ℕ, ◌+◌, ◌*◌, ◌<◌}
use Rattle.algebra.specs.Sequence.{at}
use Rattle.fitting.proofs.gaps_zero.Given as goal

abbrev pub invariant-loop-j : goal.invariant-loop-j
invariant-loop-j l = (i : ℕ) → i < l.j → at l.coefs (i * l.size + l.r) ≡ 0
