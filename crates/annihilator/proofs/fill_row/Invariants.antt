use Rattle.algebra.proofs.Writing.{Writing}
use Rattle.annihilator.specs.Step.{shifted}
use Rattle.annihilator.proofs.fill_row.Given as goal

abbrev pub invariant-loop-i : goal.invariant-loop-i
invariant-loop-i l = Writing (shifted l.row l.e) 0 l.t l.i l.initial.target l.target
