use mathlib.Core.Path.{ap₂}
use Prim.Native.Nat.{◌+◌}
use native.Mathlib.Omega.{arith}
use Rattle.code.specs.declared.Shape.{Shape}
use Rattle.code.proofs.Places.{missing_less}
use Rattle.code.proofs.Bounds.{k_most}
use Rattle.shortening.proofs.mother_of.Goals as goal

pub overflow_add-most : goal.overflow_add-most
overflow_add-most c =
    let P = c.requires.family.placed in
    omega (arith, k_most c.args.shape c.requires, c.missing_of.ensures, missing_less c.args.shape P, P.size_most)

pub returns : goal.returns
returns c =
    let s = c.args.shape in
    ap₂ {C = Shape} (λ n m. record { field = s.field; r = s.r; n = n; k = s.k + m; wiring = s.wiring; tolerance = s.tolerance; second = s.second })
    c.room_of-room.ensures.0 c.missing_of.ensures
