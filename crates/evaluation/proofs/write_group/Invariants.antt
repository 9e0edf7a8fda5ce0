use Prim.Native.Nat.{◌+◌, ◌*◌}
use Rattle.algebra.proofs.Scattered.{Scattered}
use Rattle.evaluation.proofs.write_group.Given as goal

abbrev pub invariant-loop-i : goal.invariant-loop-i
invariant-loop-i l =
    Scattered (λ m. l.first + m * l.step) l.symbols l.i l.initial.codeword l.codeword
