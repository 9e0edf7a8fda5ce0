use mathlib.Core.Path.{refl, ◌∙◌}
use native.Mathlib.Omega.{arith}
use lib.ListN.{length}
use Rattle.algebra.specs.Sequence.{column}
use Rattle.algebra.proofs.Filling.{filled_all}
use Rattle.strip_columns.proofs.take_column.Invariants.{entry}
use Rattle.strip_columns.proofs.take_column.Goals as goal

pub returns : goal.returns
returns c =
    let l = c.loop-m in
    let a = c.args in
    filled_all (entry a.strips.now a.l a.c) l.m (length a.buffer.now) a.buffer.now l.buffer (omega (arith, l.invariant.size)) refl l.invariant
    ∙ (unfold column in refl)
