use mathlib.Core.Path.{◌∙◌}
use Prim.Native.Nat.{◌+◌, ◌*◌, ◌/◌}
use native.Mathlib.Omega.{arith}
use Rattle.algebra.specs.Sequence.{at}
use Rattle.algebra.proofs.Filling.{filled_all}
use Rattle.fitting.proofs.Interpolating.{exponent_room, message_sum}
use Rattle.fitting.proofs.read_message.Goals as goal

pub bounds-coefs-m : goal.bounds-coefs-m
bounds-coefs-m c = omega (arith, exponent_room c.args.shape c.requires.0 c.loop-m.m (omega arith))

pub returns : goal.returns
returns c =
    let a = c.args in
    let l = c.loop-m in
    filled_all (λ i. at a.coefs.now (i + a.shape.tolerance * (i / a.shape.r))) l.m a.shape.k a.message.now l.message (omega arith) c.requires.1 l.invariant
    ∙ message_sum a.shape c.requires.0 a.coefs.now
