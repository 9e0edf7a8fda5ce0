use mathlib.Core.Path.{◌≡◌}
use Prim.Native.Nat.{◌%◌}
use Rattle.local_code.proofs.Local.{LocalFrom}
use Rattle.local_code.proofs.local_polynomial.Given as goal

abbrev pub invariant-loop-m : goal.invariant-loop-m
invariant-loop-m l = (l.i ≡ l.m % l.r) × LocalFrom l.field l.r l.y l.m l.row l.local
