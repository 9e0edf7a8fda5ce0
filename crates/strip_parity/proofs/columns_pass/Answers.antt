use mathlib.Core.Path.{◌≡◌, refl, sym, ap, ◌∙◌}
use Prim.Native.Nat.{◌*◌, ◌≤◌}
use native.Mathlib.Omega.{arith}
use lib.ListN.{length}
use Rattle.code.specs.Shape.{mates}
use Rattle.code.proofs.Bounds.{r_most}
use Rattle.code.proofs.Mates.{mates_number_is}
use Rattle.parity.proofs.Counts.{checks_most}
use Rattle.strip_parity.proofs.Reduced.{rows_pass}
use Rattle.strip_parity.proofs.columns_pass.Goals as goal
use Rattle.strip_parity.proofs.columns_pass.Goals.{After-mates_number-number}

-- there are as many as the slot has mates
number : (c : After-mates_number-number) → let a = c.args in c.mates_number-number.result ≡ length (mates a.shape a.slot)
number c = c.mates_number-number.ensures.0 ∙ mates_number_is c.args.shape c.args.slot c.requires.1

-- there are at most sixteen checks
few : (c : After-mates_number-number) → c.args.n ≤ 16
few c =
    omega (arith, c.requires.2, checks_most c.args.shape c.args.slot, r_most c.args.shape c.requires.0.placed)

pub reduce_for-requires : goal.reduce_for-requires
reduce_for-requires c =
    let C = c.check_rows-rows.ensures in
    (few (goal.at.reduce_for-requires c).After-mates_number-number, omega (arith, few (goal.at.reduce_for-requires c).After-mates_number-number, C.size), C.below)

pub annulled-requires : goal.annulled-requires
annulled-requires c =
    let C = c.check_rows-rows.ensures in
    (few (goal.at.annulled-requires c).After-mates_number-number, omega (arith, c.reduce_for.ensures.size, C.size), c.mates_number-number.ensures.1, c.requires.3, c.requires.4 ∙ ap (λ k. k * length c.args.sums.now) (sym (number (goal.at.annulled-requires c).After-mates_number-number)))

pub returns : goal.returns
returns c =
    let a = c.args in
    let l = length a.sums.now in
    c.annulled.ensures
    ∙ rows_pass a.shape c.requires.0 a.slot c.requires.1 l a.strips.now c.requires.4 c.requires.5 a.n c.mates_number-number.result l c.check_rows-rows.result
    c.reduce_for.new.rows c.requires.2 (number (goal.at.returns c).After-mates_number-number) c.mates_number-number.ensures.1 refl c.check_rows-rows.ensures c.reduce_for.ensures
