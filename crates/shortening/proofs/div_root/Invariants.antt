use Rattle.shortening.proofs.Division.{Dividing}
use Rattle.shortening.proofs.div_root.Given as goal

abbrev pub invariant-loop-i : goal.invariant-loop-i
invariant-loop-i l = Dividing l.field l.y l.i l.value l.initial.coefs l.coefs
