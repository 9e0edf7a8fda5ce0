use mathlib.Core.Path.{◌≡◌, refl}
use native.Mathlib.Omega.{arith}
use lib.ListN.{length, replicate}
use Rattle.std.proofs.Common.{rules}
use Rattle.annihilator.proofs.Gaps.{gathered_none}
use Rattle.annihilator.proofs.take_gaps.Goals as goal

pub loop-j-init : goal.loop-j-init
loop-j-init c =
    let a = c.args in
    let d = c.fill in
    let z : d.new.self ≡ replicate (length d.new.self) 0 = search rules in
    (refl, gathered_none a.field a.t a.size a.r a.row.now d.new.self (omega arith) z)
