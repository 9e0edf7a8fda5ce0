use Rattle.tables.proofs.Tables.{doubles, powers, doubling, next_is, ends}
use Rattle.algebra.specs.Sequence.{every}
use Rattle.field.specs.Field.{q, γ, times, times_from, xor_from, doubled}
use Rattle.tables.proofs.power_table.Goals as goal

pub returns : goal.returns
unfolding doubling ends next_is every q γ times times_from xor_from doubled
returns c = powers 1 _ (doubles 1 _ tt)
