use mathlib.Core.Path.{refl, sym, ap, ◌∙◌}
use native.Mathlib.Omega.{arith}
use lib.ListN.{length}
use Rattle.algebra.specs.Sequence.{at, tabulate}
use Rattle.tiles.proofs.Tiles.{row_added, row_added_none, row_added_first}
use Rattle.tiles.proofs.set_row.Goals as goal

pub returns-then-counts-m-eq0 : goal.returns-then-counts-m-eq0
returns-then-counts-m-eq0 c =
    let a = c.args in
    row_added_none a.strips.now a.offsets.now a.m a.c (λ i. 0) (length a.t.now) a.t.now refl (λ i h. c.requires.1 i)
    ∙ ap (λ n. tabulate (row_added a.strips.now a.offsets.now a.m a.c (λ i. 0) (length a.t.now) n) (length a.t.now)) (sym c.if-counts-m-eq0.true)

pub returns : goal.returns
returns c =
    let k = c.copy in
    let r = c.add_row in
    let a = c.args in
    let t = row_added a.strips.now a.offsets.now a.m a.c (λ i. 0) (length a.t.now) in
    r.ensures.1 (λ i. 0)
    (row_added_first a.strips.now a.offsets.now a.m a.c a.t.now k.new.target
    (λ i. omega (arith, c.type_inv.strips i)) k.ensures
    ∙ ap (tabulate (t 1)) (sym k.ensures.written.size))
    ∙ ap (tabulate (t (at a.counts.now a.m))) k.ensures.written.size
