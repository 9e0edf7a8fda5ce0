use mathlib.Core.Path.{◌≡◌, sym, ap, ap₂, ◌∙◌}
use Prim.Native.Nat.{◌*◌}
use native.Mathlib.Omega.{arith}
use lib.ListN.{length}
use Rattle.algebra.specs.Sequence.{all_below}
use Rattle.algebra.proofs.Every.{every_none, every_more, every_done, every_not}
use Rattle.field.specs.Polynomial.{weighed}
use Rattle.row_reduction.proofs.Reducing.{length_row}
use Rattle.strip_parity.specs.Step.{zero_row}
use Rattle.strip_parity.proofs.annulled.Goals as goal
use Rattle.strip_parity.proofs.annulled.Goals.{After-sums_zero}

pub loop-c-init : goal.loop-c-init
loop-c-init c = let a = c.args in every_none (zero_row a.field a.r (length a.sums.now) a.rows.now a.strips.now)

pub row_of-row-requires : goal.row_of-row-requires
row_of-row-requires c = (omega (arith, c.requires.0, c.loop-c-test.true), c.requires.1)

pub sums_zero-requires : goal.sums_zero-requires
sums_zero-requires c =
    let a = c.args in (
      c.requires.2,
      omega (arith, c.requires.2, ap length c.row_of-row.ensures ∙ length_row a.rows.now c.loop-c.c),
      omega (arith, c.loop-c.auto.sums, c.requires.3),
      c.requires.4 ∙ ap (λ k. a.r * k) (sym c.loop-c.auto.sums),
    )

-- what was found of row c
found : (c : After-sums_zero) → let a = c.args in
    c.sums_zero.result ≡ zero_row a.field a.r (length a.sums.now) a.rows.now a.strips.now c.loop-c.c
unfolding zero_row
found c =
    let a = c.args in
    c.sums_zero.ensures.0
    ∙ ap₂ (λ row k. all_below 1 (weighed a.field row a.r k a.strips.now)) c.row_of-row.ensures c.loop-c.auto.sums

pub returns-then-not-sums_zero : goal.returns-then-not-sums_zero
returns-then-not-sums_zero c =
    let a = c.args in
    sym (every_not (zero_row a.field a.r (length a.sums.now) a.rows.now a.strips.now) a.n c.loop-c.c c.loop-c-test.true
    (sym (found (goal.at.returns-then-not-sums_zero c).After-sums_zero) ∙ c.if-not-sums_zero.true))

pub loop-c-preserved : goal.loop-c-preserved
loop-c-preserved c =
    let a = c.args in
    every_more (zero_row a.field a.r (length a.sums.now) a.rows.now a.strips.now) c.loop-c.c c.loop-c.invariant
    (sym (found (goal.at.loop-c-preserved c).After-sums_zero) ∙ c.if-not-sums_zero.false)

pub returns : goal.returns
returns c =
    let a = c.args in
    every_done (zero_row a.field a.r (length a.sums.now) a.rows.now a.strips.now) a.n c.loop-c.c (omega arith) (omega (arith, c.loop-c-test.false)) c.loop-c.invariant
