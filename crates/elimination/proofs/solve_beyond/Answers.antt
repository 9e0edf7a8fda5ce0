use mathlib.Core.Path.{ap, ◌∙◌}
use Prim.Native.Nat.{ℕ}
use lib.ListN.{replicate}
use Rattle.elimination.proofs.Verdicts.{verdict_none, verdict_asked}
use Rattle.elimination.proofs.solve_beyond.Goals as goal

pub returns-then-not-gather : goal.returns-then-not-gather
returns-then-not-gather c =
    let a = c.args in
    let g = c.gather in (
      verdict_none a.shape a.word.now a.marks.now g.new.work a.message.now g.result g.ensures c.if-not-gather.true,
      c.fill.ensures.after (λ y h. h) ∙ ap (λ (l : ℕ). replicate l 0) g.auto.work,
    )

pub returns : goal.returns
returns c =
    let a = c.args in
    let g = c.gather in
    let t = c.finish-one in (
      rw c.require.ensures (verdict_asked a.shape a.word.now a.marks.now g.new.work g.result g.ensures c.if-not-gather.false a.message.now
          t.new.solution t.result t.ensures),
      c.fill-2.ensures.after (λ y h. h) ∙ ap (λ (l : ℕ). replicate l 0) g.auto.work,
    )
