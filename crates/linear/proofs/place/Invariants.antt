use Rattle.linear.specs.Step.{Ready, SameSolutions}
use Rattle.linear.proofs.place.Given as goal

abbrev pub invariant-loop-j : goal.invariant-loop-j
invariant-loop-j l = Ready l.field l.k l.j l.work × SameSolutions l.field l.k l.initial.work l.work
