use mathlib.Core.Path.{◌≡◌, sym, ap, subst, ◌∙◌}
use native.Mathlib.Omega.{arith}
use borrow.Author.Tests.{eq-eqb, ne_eqb}
use lib.ListN.{length, take}
use Rattle.algebra.proofs.Every.{every_none, every_more, every_done, every_not}
use Rattle.field.specs.Polynomial.{dotted}
use Rattle.code.specs.Shape.{mates}
use Rattle.code.proofs.Bounds.{r_most}
use Rattle.code.proofs.Mates.{mates_number_is}
use Rattle.weights.proofs.Sixteen.{length_sixteen}
use Rattle.parity.specs.Parity.{checks, check_weights, passes}
use Rattle.parity.specs.Step.{Terms}
use Rattle.parity.proofs.Counts.{checks_most}
use Rattle.parity.proofs.Rows.{check_dotted, passes_check}
use Rattle.parity.proofs.pass_checks.Goals as goal
use Rattle.parity.proofs.pass_checks.Goals.{After-dot}

pub mates_number-number-requires : goal.mates_number-number-requires
mates_number-number-requires c = c.requires.0

pub weights_of-weights-requires : goal.weights_of-weights-requires
weights_of-weights-requires c = (c.requires.0, c.requires.1)

pub terms_of-terms-requires : goal.terms_of-terms-requires
terms_of-terms-requires c =
    let a = c.args in
    (c.requires.0, c.requires.1, omega (arith, c.requires.2, checks_most a.shape a.slot, r_most a.shape c.requires.0.placed))

pub loop-l-init : goal.loop-l-init
loop-l-init c = let a = c.args in every_none (passes_check a.shape a.slot a.symbols.now)

pub check_weights-row-requires : goal.check_weights-row-requires
check_weights-row-requires c =
    let a = c.args in (
      c.requires.0,
      c.requires.1,
      omega (arith, c.requires.2, c.loop-l-test.true),
      c.weights_of-weights.ensures,
      subst (λ n. Terms a.shape a.slot n c.terms_of-terms.result) c.requires.2 c.terms_of-terms.ensures,
    )

pub slice_bounds-dot-end : goal.slice_bounds-dot-end
slice_bounds-dot-end c =
    let a = c.args in
    sym (ap length c.check_weights-row.ensures ∙ length_sixteen (check_weights a.shape a.slot c.loop-l.l))

pub dot-requires : goal.dot-requires
dot-requires c =
    let a = c.args in
    let n = mates_number_is a.shape a.slot c.requires.1 in (
      omega (arith, c.mates_number-number.ensures.1, ap length c.check_weights-row.ensures ∙ length_sixteen (check_weights a.shape a.slot c.loop-l.l)),
      omega (arith, c.mates_number-number.ensures.0, n, c.requires.3),
    )

-- the sum that was worked out
sum_is : (c : After-dot) → let a = c.args in
    c.dot.result ≡ dotted a.shape.field (check_weights a.shape a.slot c.loop-l.l) (take (length (mates a.shape a.slot)) a.symbols.now)
sum_is c =
    let a = c.args in
    let w = c.check_weights-row in
    c.dot.ensures ∙ check_dotted a.shape c.requires.0 a.slot c.requires.1 c.loop-l.l c.mates_number-number.result w.result a.symbols.now
    (c.mates_number-number.ensures.0 ∙ mates_number_is a.shape a.slot c.requires.1) w.ensures

pub returns-then-dot-ne0 : goal.returns-then-dot-ne0
unfolding passes
returns-then-dot-ne0 c =
    let a = c.args in
    sym (every_not (passes_check a.shape a.slot a.symbols.now) (checks a.shape a.slot) c.loop-l.l (omega (arith, c.requires.2, c.loop-l-test.true))
    (ne_eqb (dotted a.shape.field (check_weights a.shape a.slot c.loop-l.l) (take (length (mates a.shape a.slot)) a.symbols.now)) 0
    (λ e. c.if-dot-ne0.true (sum_is (goal.at.returns-then-dot-ne0 c).After-dot ∙ e))))

pub loop-l-preserved : goal.loop-l-preserved
loop-l-preserved c =
    let a = c.args in
    every_more (passes_check a.shape a.slot a.symbols.now) c.loop-l.l c.loop-l.invariant
    (eq-eqb (dotted a.shape.field (check_weights a.shape a.slot c.loop-l.l) (take (length (mates a.shape a.slot)) a.symbols.now)) 0
    (sym (sum_is (goal.at.loop-l-preserved c).After-dot) ∙ c.if-dot-ne0.false))

pub returns : goal.returns
unfolding passes
returns c =
    let a = c.args in
    every_done (passes_check a.shape a.slot a.symbols.now) (checks a.shape a.slot) c.loop-l.l (omega (arith, c.requires.2)) (omega (arith, c.requires.2, c.loop-l-test.false)) c.loop-l.invariant
