use Rattle.group_folding.specs.Fold.{Folded}
use Rattle.group_folding.proofs.fold.Given as goal

abbrev pub invariant-loop-b : goal.invariant-loop-b
invariant-loop-b l =
    Folded l.shape l.l l.messages l.c l.b l.coefs
