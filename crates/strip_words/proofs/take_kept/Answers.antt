use mathlib.Core.Path.{refl, ◌∙◌}
use native.Mathlib.Omega.{arith}
use lib.ListN.{length}
use Rattle.algebra.proofs.Filling.{filled_all}
use Rattle.strip_words.specs.Strips.{kept_symbol, kept_column}
use Rattle.strip_words.proofs.take_kept.Goals as goal

pub returns : goal.returns
returns c =
    let l = c.loop-m in
    let a = c.args in
    filled_all (kept_symbol a.l a.c a.words.now a.marks.now) l.m (length a.buffer.now) a.buffer.now l.buffer (omega (arith, l.invariant.size)) refl l.invariant
    ∙ (unfold kept_column in refl)
