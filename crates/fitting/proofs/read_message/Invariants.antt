use Prim.Native.Nat.{◌+◌, ◌*◌, ◌/◌}
use Rattle.algebra.specs.Sequence.{at}
use Rattle.algebra.proofs.Filling.{Filled}
use Rattle.fitting.proofs.read_message.Given as goal

abbrev pub invariant-loop-m : goal.invariant-loop-m
invariant-loop-m l = Filled (λ i. at l.coefs (i + l.tolerance * (i / l.r))) l.m l.initial.message l.message
