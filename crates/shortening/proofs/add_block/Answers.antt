use Prim.Native.Nat.{◌-◌}
use native.Mathlib.Omega.{arith}
use lib.ListN.{length, replicate}
use Rattle.shortening.proofs.Basing.{block_written}
use Rattle.shortening.proofs.add_block.Goals as goal

pub returns : goal.returns
returns c =
    let a = c.args in
    let to = length a.row.now - a.r in
    let L = c.copy in
    let A = c.add_scaled in
    block_written a.field a.r a.c a.start (to - a.start) to a.row.now (replicate 256 0) L.new.target A.new.target
    (omega (arith, c.requires.0)) L.ensures A.ensures
