use Prim.Native.Nat.{◌+◌, ◌-◌}
use native.Mathlib.Omega.{arith}
use Rattle.interpolation.proofs.Shifting.{shifted_by}
use Rattle.interpolation.proofs.shift.Goals as goal

pub returns : goal.returns
returns c =
    let a = c.args in
    shifted_by a.to (a.to + 1 - 1) a.source.now c.copy_from_slice.new.self a.target.now c.copy_from_slice.ensures.after (omega arith) (omega arith)
