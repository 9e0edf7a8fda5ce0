use native.Mathlib.Omega.{arith}
use Rattle.layout.proofs.Numbers.{slot_is, slot_byte}
use Rattle.layout.proofs.slot_at.Goals as goal

pub overflow_mul-result : goal.overflow_mul-result
overflow_mul-result c =
    omega (
      arith,
      slot_is c.args.shape c.args.group c.args.member c.first_of.result c.step_of.result c.first_of.ensures c.step_of.ensures,
      slot_byte c.args.shape c.requires.0 c.args.group c.args.member c.requires.1 c.requires.2,
    )

pub overflow_add-result : goal.overflow_add-result
overflow_add-result c =
    omega (
      arith,
      slot_is c.args.shape c.args.group c.args.member c.first_of.result c.step_of.result c.first_of.ensures c.step_of.ensures,
      slot_byte c.args.shape c.requires.0 c.args.group c.args.member c.requires.1 c.requires.2,
    )

pub returns : goal.returns
returns c =
    slot_is c.args.shape c.args.group c.args.member c.first_of.result c.step_of.result c.first_of.ensures c.step_of.ensures
