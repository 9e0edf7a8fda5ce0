use mathlib.Core.Path.{sym, subst}
use Prim.Native.Nat.{ℕ, ◌+◌, ◌*◌}
use native.Mathlib.Omega.{arith}
use lib.ListN.{drop}
use Rattle.strip_settling.specs.Step.{ColumnSettled}
use Rattle.strip_settling.proofs.Settling.{Settled, settled_one, settled_two, settled_none, settled_all}
use Rattle.strip_settling.proofs.settle_columns.Goals as goal
use Rattle.strip_settling.proofs.settle_columns.Goals.{then-next-ne0, else-next-ne0}

pub returns-then-next-eq9 : goal.returns-then-next-eq9
returns-then-next-eq9 c =
    let a = c.args in
    let t = c.settle_column-next in
    let u : ℕ = a.shape.n * (a.shape.k + 1) in
    settled_none a.shape a.l a.words.now a.marks.now c.loop-c.c (drop u c.loop-c.room) (drop u t.new.room) c.loop-c-test.true
    (subst (λ (x : ℕ). ColumnSettled a.shape a.l a.words.now a.marks.now c.loop-c.c x (drop u c.loop-c.room) (drop u t.new.room)) c.if-next-eq9.true t.ensures)

pub loop-c-preserved : goal.loop-c-preserved
loop-c-preserved c =
    let a = c.args in
    let l = c.loop-c in
    let t = c.settle_column-next in
    let u : ℕ = a.shape.n * (a.shape.k + 1) in
    elim c.if-next-ne0.branch [
      | then-next-ne0 w ↦ subst (λ (x : ℕ). Settled a.shape a.l a.words.now a.marks.now (l.c + 1) x (drop u t.new.room)) (sym w.answer-is)
          (settled_two a.shape a.l a.words.now a.marks.now l.c (drop u l.room) (drop u t.new.room) c.loop-c-test.true l.answer t.result
          c.if-next-eq9.false w.if-next-ne0.true t.ensures l.invariant)
      | else-next-ne0 w ↦ subst (λ (x : ℕ). Settled a.shape a.l a.words.now a.marks.now (l.c + 1) x (drop u t.new.room)) (sym w.answer-is)
          (settled_one a.shape a.l a.words.now a.marks.now l.c (drop u l.room) (drop u t.new.room) c.loop-c-test.true l.answer t.result
          w.if-next-ne0.false t.ensures l.invariant)
    ]

pub returns : goal.returns
returns c =
    let a = c.args in
    let l = c.loop-c in
    settled_all a.shape a.l a.words.now a.marks.now l.c l.answer (drop (a.shape.n * (a.shape.k + 1)) l.room) (omega arith) l.invariant
