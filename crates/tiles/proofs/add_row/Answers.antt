use mathlib.Core.Path.{◌≡◌, ap, ◌∙◌}
use native.Mathlib.Omega.{arith}
use lib.ListN.{length}
use Rattle.algebra.specs.Sequence.{at, tabulate}
use Rattle.tiles.proofs.Tiles.{row_added, row_added_more}
use Rattle.tiles.proofs.add_row.Goals as goal

pub loop-k-preserved : goal.loop-k-preserved
loop-k-preserved c =
    let l = c.loop-k in
    let a = c.args in
    let n = c.add in (
      n.auto.t ∙ l.invariant.0,
      λ b e.
          row_added_more a.strips.now a.offsets.now a.m a.c b (length a.t.now) l.k l.t n.new.t (l.invariant.1 b e) n.ensures,
    )

pub returns : goal.returns
returns c =
    let l = c.loop-k in
    let a = c.args in
    let e : l.k ≡ at a.counts.now a.m = omega arith in
    (l.invariant.0, λ b h. l.invariant.1 b h ∙ ap (λ n. tabulate (row_added a.strips.now a.offsets.now a.m a.c b (length a.t.now) n) (length a.t.now)) e)
