use mathlib.Core.Path.{◌≡◌}
use Prim.Native.Nat.{ℕ, ◌<◌}
use Rattle.algebra.specs.Sequence.{at, every}
use Rattle.field.specs.Field.{q, γ, times, times_from, xor_from, doubled, power}
use Rattle.field.proofs.Generator.{table, table_at, powers_from}
use Rattle.tables.proofs.Tables.{logs, inverts, log_is}
use Rattle.tables.proofs.log_table.Goals as goal

entries : (e : ℕ) → e < 255 → at (table 1) e ≡ power 1 γ e
unfolding q
entries e h = table_at 1 e h

pub returns : goal.returns
unfolding inverts log_is every powers_from q γ times times_from xor_from doubled
returns c = logs (table 1) _ entries tt
