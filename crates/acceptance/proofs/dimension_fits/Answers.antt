use Prim.Native.Nat.{◌+◌, ◌≤◌}
use Rattle.code.specs.Shape.{size, groups, ceiling}
use Rattle.code.specs.Family.{single, k_fits}
use Rattle.acceptance.proofs.Fits.{groups_few, least_is, least_more, least_some}
use Rattle.acceptance.proofs.dimension_fits.Goals as goal
use Rattle.std.proofs.Common.{arith}
use Rattle.std.proofs.lemmas.Bool.Decides.{nat_tests}

pub returns-then-room : goal.returns-then-room
unfolding k_fits groups ceiling size
returns-then-room c =
    let s = single c.args.code in
    let h : 1 ≤ s.r + 1 = omega arith in
    grind (arith, nat_tests, groups_few s, least_is s h s.k, least_more s h s.k)

pub returns-else-room : goal.returns-else-room
unfolding k_fits groups ceiling size
returns-else-room c =
    let s = single c.args.code in grind (arith, nat_tests, groups_few s, least_some s)
