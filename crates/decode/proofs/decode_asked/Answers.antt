use Rattle.std.proofs.Common.{rules, arith}
use mathlib.Core.Path.{◌≡◌}
use Rattle.code.proofs.Bounds.{work_most}
use Rattle.refusal.specs.Refusal.{number_of}
use Rattle.decode.proofs.decode_asked.Goals as goal

pub overflow_mul-used : goal.overflow_mul-used
overflow_mul-used c =
    let e : number_of c.args.asked ≡ 0 = search rules in
    omega (arith, work_most c.args.shape (c.requires e).plain)
