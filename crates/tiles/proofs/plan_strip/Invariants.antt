use Prim.Native.Nat.{◌≤◌}
use Rattle.tiles.proofs.Planning.{Extending}
use Rattle.tiles.proofs.plan_strip.Given as goal

abbrev pub invariant-loop-m : goal.invariant-loop-m
invariant-loop-m l = (l.m ≤ 8) × Extending l.w l.o l.initial.offsets l.offsets l.initial.counts l.counts l.m
