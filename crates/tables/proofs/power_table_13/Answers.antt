use Rattle.tables.proofs.Tables.{doubles, powers, doubling, next_is, ends}
use Rattle.algebra.specs.Sequence.{every}
use Rattle.field.specs.Field.{q, γ, times}
use Rattle.tables.proofs.power_table_13.Goals as goal

pub returns : goal.returns
unfolding doubling ends next_is every q γ times
returns c = powers 0 _ (doubles 0 _ tt)
