use native.Mathlib.Omega.{arith}
use Rattle.kernel.proofs.Roots.{combined_roots, combined_roots_swapped}
use Rattle.kernel.proofs.combine_roots.Goals as goal

pub returns-then-weights : goal.returns-then-weights
returns-then-weights c =
    let a = c.args in
    combined_roots a.weights.now a.strips.now a.output.now c.root_sums.new.output
    (λ i. omega (arith, c.type_inv.strips i)) c.requires.1 (omega arith) c.root_sums.ensures

pub returns : goal.returns
returns c =
    let a = c.args in
    combined_roots_swapped a.weights.now a.strips.now a.output.now c.root_sums-2.new.output
    (λ i. omega (arith, c.type_inv.strips i)) c.requires.1 (λ e. omega arith) c.root_sums-2.ensures
