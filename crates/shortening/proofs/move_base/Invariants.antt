use Prim.Native.Nat.{◌*◌}
use Rattle.shortening.proofs.Basing.{Moving}
use Rattle.shortening.proofs.move_base.Given as goal

abbrev pub invariant-loop-block : goal.invariant-loop-block
invariant-loop-block l = Moving l.field l.r l.c (l.block * l.r) l.initial.row l.row
