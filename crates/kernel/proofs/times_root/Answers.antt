use native.Mathlib.Omega.{arith}
use Rattle.kernel.proofs.Roots.{times_root_is}
use Rattle.kernel.proofs.times_root.Goals as goal

pub returns : goal.returns
returns c =
    let two = c.double in
    let six = c.double-six in
    let twelve = c.double-2 in
    times_root_is c.args.x two.result six.result twelve.result c.times_16.result
    (omega arith) two.ensures six.ensures twelve.ensures c.times_16.ensures
