use mathlib.Core.Path.{sym}
use Rattle.algebra.specs.Sequence.{at}
use Rattle.interpolation.proofs.Marks.{masked_lost, masked_kept}
use Rattle.interpolation.proofs.symbol_at.Goals as goal

pub returns-then-lost : goal.returns-then-lost
returns-then-lost c =
    let a = c.args in
    sym (masked_lost (at a.word.now a.p) (at a.marks.now a.p) c.if-lost.true)

pub returns-else-lost : goal.returns-else-lost
returns-else-lost c =
    let a = c.args in
    sym (masked_kept (at a.word.now a.p) (at a.marks.now a.p) c.if-lost.false)
