use Rattle.std.proofs.Common.{arith}
use Rattle.field.specs.Field.{q}
use Rattle.lesson.proofs.put_powers.Goals as goal

pub generator_power-requires : goal.generator_power-requires
unfolding q
generator_power-requires g c = omega arith
