use mathlib.Core.Path.{refl}
use native.Mathlib.Omega.{arith}
use lib.ListN.{length}
use Rattle.algebra.proofs.Filling.{filled_all}
use Rattle.tiles.proofs.double.Invariants.{entry}
use Rattle.tiles.proofs.double.Goals as goal

pub returns : goal.returns
returns c =
    let l = c.loop-x in
    let t = c.args.t.now in
    filled_all (entry t) l.x-index (length t) t l.t (omega (arith, l.invariant.size)) refl l.invariant
