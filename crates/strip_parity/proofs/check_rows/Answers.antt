use mathlib.Core.Path.{◌≡◌, refl, ap, subst, ◌∙◌}
use Prim.Native.Nat.{◌+◌, ◌*◌, ◌-◌, ◌≤◌}
use native.Mathlib.Omega.{arith}
use lib.ListN.{length, take, drop}
use Rattle.algebra.specs.Sequence.{at}
use Rattle.algebra.proofs.Splicing.{splice}
use Rattle.algebra.proofs.Tabulate.{tabulate_is}
use Rattle.code.proofs.Bounds.{r_most}
use Rattle.parity.specs.Step.{Terms}
use Rattle.parity.proofs.Rows.{terms_part}
use Rattle.parity.proofs.Counts.{checks_most}
use Rattle.strip_parity.specs.Step.{CheckRows}
use Rattle.strip_parity.proofs.Reduced.{upto_none, upto_more}
use Rattle.strip_parity.proofs.check_rows.Goals as goal
use Rattle.strip_parity.proofs.check_rows.Goals.{After-weights_of-weights}

pub weights_of-weights-requires : goal.weights_of-weights-requires
weights_of-weights-requires c = (c.requires.0, c.requires.1)

-- there are at most sixteen checks
few : (c : After-weights_of-weights) → c.args.n ≤ 16
few c =
    omega (arith, c.requires.2, checks_most c.args.shape c.args.slot, r_most c.args.shape c.requires.0.placed)

pub terms_of-terms-requires : goal.terms_of-terms-requires
terms_of-terms-requires c = (c.requires.0, c.requires.1, few (goal.at.terms_of-terms-requires c).After-weights_of-weights)

pub loop-c-init : goal.loop-c-init
loop-c-init c = let a = c.args in upto_none a.shape a.slot _ refl

pub check_weights-row-requires : goal.check_weights-row-requires
check_weights-row-requires c =
    let a = c.args in (
      c.requires.0,
      c.requires.1,
      omega (arith, c.requires.2, c.loop-c-test.true),
      c.weights_of-weights.ensures,
      subst (λ n. Terms a.shape a.slot n c.terms_of-terms.result) c.requires.2 c.terms_of-terms.ensures,
    )

pub overflow_mul-c : goal.overflow_mul-c
overflow_mul-c c = omega (arith, few (goal.at.overflow_mul-c c).After-weights_of-weights, c.loop-c-test.true)

pub overflow_mul-rows : goal.overflow_mul-rows
overflow_mul-rows c = omega (arith, few (goal.at.overflow_mul-rows c).After-weights_of-weights, c.loop-c-test.true)

pub overflow_add-c : goal.overflow_add-c
overflow_add-c c = omega (arith, few (goal.at.overflow_add-c c).After-weights_of-weights, c.loop-c-test.true)

pub slice_bounds-rows-end : goal.slice_bounds-rows-end
slice_bounds-rows-end c =
    omega (arith, few (goal.at.slice_bounds-rows-end c).After-weights_of-weights, c.loop-c-test.true, c.loop-c.invariant.size)

pub loop-c-preserved : goal.loop-c-preserved
loop-c-preserved c =
    let a = c.args in
    let w = c.check_weights-row in
    let xs = c.loop-c.rows in
    let ys = c.copy_from_slice.new.self in
    let o = c.loop-c.c * 16 in
    let k = o + 16 - o in
    let few_here = few (goal.at.loop-c-preserved c).After-weights_of-weights in
    let t = c.loop-c-test.true in
    let E = c.copy_from_slice.ensures in
    upto_more a.shape a.slot c.loop-c.c o w.result xs (splice o k xs ys) (omega (arith, few_here)) refl w.ensures c.loop-c.invariant
    (terms_part (λ i. at w.result (0 + i)) o k 16 xs ys (omega arith) (omega (arith, few_here, c.loop-c.invariant.size))
    (tabulate_is (λ i. at w.result (0 + i)) 0 (length (take k (drop o xs))) ys E.len
    (λ i h. let s : i ≡ 0 + i = omega arith in ap (λ l. at l i) E.after ∙ ap (at w.result) s)))

pub returns : goal.returns
returns c =
    let a = c.args in
    let e : c.loop-c.c ≡ a.n = omega (arith, c.loop-c-test.false) in
    subst (λ n. CheckRows a.shape a.slot n c.loop-c.rows) e c.loop-c.invariant
