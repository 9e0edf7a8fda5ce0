use mathlib.Core.Path.{◌≡◌, ap}
use Prim.Native.Nat.{◌+◌, ◌*◌, ◌-◌, ◌/◌}
use native.Mathlib.Omega.{arith}
use Rattle.code.specs.Shape.{missing}
use Rattle.code.specs.Codeword.{guarantee}
use Rattle.code.proofs.Places.{missing_less}
use Rattle.code.proofs.Bounds.{n_most, r_most}
use Rattle.losses.proofs.Sure.{sure_is, blocks_least}
use Rattle.losses.proofs.guarantee_of.Goals as goal
use Rattle.losses.proofs.guarantee_of.Goals.{After-missing_of}

pub overflow_add-whole : goal.overflow_add-whole
overflow_add-whole c =
    let a = c.args.shape in
    let P = c.requires.0.placed in
    omega (arith, c.requires.0.k_below, n_most a P, c.missing_of.ensures, missing_less a P, P.size_most)

pub overflow_add-blocks : goal.overflow_add-blocks
overflow_add-blocks c =
    let a = c.args.shape in
    let P = c.requires.0.placed in
    omega (arith, c.requires.0.k_below, n_most a P, c.missing_of.ensures, missing_less a P, P.size_most, r_most a P)

-- k + missing, as it was worked out
whole_is : (c : After-missing_of) → let a = c.args.shape in a.k + c.missing_of.result ≡ a.k + missing a
whole_is c = ap (λ n. c.args.shape.k + n) c.missing_of.ensures

sure : (c : After-missing_of) → let a = c.args.shape in
    guarantee a + a.k + a.tolerance * ((a.k + c.missing_of.result + a.r - 1) / a.r - 1) ≡ a.n
sure c = let a = c.args.shape in sure_is a c.requires.0 c.requires.1 (a.k + c.missing_of.result) (whole_is c)

pub overflow_sub-result-2 : goal.overflow_sub-result-2
overflow_sub-result-2 c = let a = c.args.shape in omega (arith, blocks_least a c.requires.0 c.requires.1 (a.k + c.missing_of.result) (whole_is (goal.at.overflow_sub-result-2 c).After-missing_of))

pub overflow_mul-result : goal.overflow_mul-result
overflow_mul-result c = omega (arith, sure (goal.at.overflow_mul-result c).After-missing_of, n_most c.args.shape c.requires.0.placed)

pub overflow_sub-result-3 : goal.overflow_sub-result-3
overflow_sub-result-3 c = omega (arith, sure (goal.at.overflow_sub-result-3 c).After-missing_of)

pub returns : goal.returns
returns c = omega (arith, sure (goal.at.returns c).After-missing_of)
