use Prim.Native.Nat.{◌*◌}
use Rattle.lanes.specs.Lane.{shown}
use Rattle.group_values.specs.Value.{GroupsStored}
use Rattle.group_values.proofs.write_groups.Given as goal

abbrev pub invariant-loop-j : goal.invariant-loop-j
invariant-loop-j l = GroupsStored l.shape l.l l.c l.j (λ m. shown l.coefs (m * 256)) l.initial.codewords l.codewords
