use mathlib.Core.Path.{◌≡◌, refl, sym, ap, ◌∙◌}
use Prim.Native.Nat.{ℕ, ◌+◌, ◌<◌}
use native.Mathlib.Omega.{arith}
use lib.ListN.{length, replicate}
use Rattle.algebra.specs.Sequence.{at}
use Rattle.algebra.proofs.Filling.{Filled, filled_none, filled_more}
use Rattle.field.specs.Field.{times}
use Rattle.code.specs.Shape.{mates}
use Rattle.code.proofs.Bounds.{r_most}
use Rattle.code.proofs.Mates.{mates_number_is}
use Rattle.weights.proofs.Sixteen.{sixteen_of}
use Rattle.parity.specs.Parity.{checks, check_weights}
use Rattle.parity.proofs.Counts.{checks_most}
use Rattle.parity.proofs.Rows.{entry, entry_is, length_checks}
use Rattle.parity.proofs.check_weights.Goals as goal
use Rattle.parity.proofs.check_weights.Goals.{After-mates_number-number}

pub mates_number-number-requires : goal.mates_number-number-requires
mates_number-number-requires c = c.requires.0

-- there are at most sixteen checks
few : (c : After-mates_number-number) → c.args.l < 16
few c =
    omega (arith, c.requires.2, checks_most c.args.shape c.args.slot, r_most c.args.shape c.requires.0.placed)

pub overflow_add-own : goal.overflow_add-own
overflow_add-own c = omega (arith, few (goal.at.overflow_add-own c).After-mates_number-number)

pub bounds-terms-l : goal.bounds-terms-l
bounds-terms-l c = omega (arith, few (goal.at.bounds-terms-l c).After-mates_number-number)

pub loop-i-init : goal.loop-i-init
loop-i-init c =
    let a = c.args in
    filled_none (entry a.shape.field a.l a.factors.now a.terms.now (at a.terms.now (256 + a.l))) (replicate 16 0)

pub overflow_mul-i : goal.overflow_mul-i
overflow_mul-i c = omega (arith, c.mates_number-number.ensures.1)

pub overflow_add-i : goal.overflow_add-i
overflow_add-i c = omega (arith, c.mates_number-number.ensures.1, few (goal.at.overflow_add-i c).After-mates_number-number)

pub bounds-terms-i : goal.bounds-terms-i
bounds-terms-i c = omega (arith, c.mates_number-number.ensures.1, c.loop-i-test.true, few (goal.at.bounds-terms-i c).After-mates_number-number)

pub bounds-factors-i : goal.bounds-factors-i
bounds-factors-i c = omega (arith, c.mates_number-number.ensures.1, c.loop-i-test.true)

pub bounds-row-i : goal.bounds-row-i
bounds-row-i c = omega (arith, c.mates_number-number.ensures.1, c.loop-i-test.true)

pub loop-i-preserved : goal.loop-i-preserved
loop-i-preserved c =
    let a = c.args in
    filled_more (entry a.shape.field a.l a.factors.now a.terms.now (at a.terms.now (256 + a.l))) c.loop-i.i c.mul.result (replicate 16 0) c.loop-i.row
    (omega (arith, c.mates_number-number.ensures.1, c.loop-i-test.true, c.loop-i.invariant.size)) (c.mul.ensures ∙ ap (times a.shape.field (at a.factors.now c.loop-i.i)) c.sub-less.ensures) c.loop-i.invariant

pub returns : goal.returns
returns c =
    let a = c.args in
    let M = c.requires.0 in
    let h = c.requires.1 in
    let n = mates_number_is a.shape a.slot h in
    let e : c.loop-i.i ≡ length (mates a.shape a.slot) = omega (arith, c.mates_number-number.ensures.0, n, c.loop-i-test.false) in
    let is : (i : ℕ) → i < length (mates a.shape a.slot) → entry a.shape.field a.l a.factors.now a.terms.now (at a.terms.now (256 + a.l)) i ≡ at (check_weights a.shape a.slot a.l) i
    = entry_is a.shape M a.slot h (checks a.shape a.slot) a.l a.factors.now a.terms.now (at a.terms.now (256 + a.l)) c.requires.2 c.requires.3 c.requires.4 refl in
    let F : Filled (at (check_weights a.shape a.slot a.l)) c.loop-i.i (replicate 16 0) c.loop-i.row
    = record { size = c.loop-i.invariant.size; below = λ k b. c.loop-i.invariant.below k b ∙ is k (omega arith); above = c.loop-i.invariant.above } in
    sixteen_of (check_weights a.shape a.slot a.l) c.loop-i.i c.loop-i.row (e ∙ sym (length_checks a.shape M a.slot h a.l)) F
