use Prim.Native.Nat.{◌+◌, ◌-◌}
use Rattle.strip_columns.proofs.Done.{Done}
use Rattle.encode_tiles.proofs.write_chunks.Given as goal

abbrev pub invariant-loop-c : goal.invariant-loop-c
invariant-loop-c l = Done l.shape l.l l.messages l.c l.codewords

abbrev pub decreases-loop-c : goal.decreases-loop-c
decreases-loop-c l = l.l + 256 - l.c
