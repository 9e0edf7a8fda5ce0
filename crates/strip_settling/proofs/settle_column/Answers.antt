use mathlib.Core.Path.{sym, subst, ◌∙◌}
use Prim.Native.Nat.{ℕ, ◌+◌, ◌*◌, ◌≤◌}
use native.Mathlib.Omega.{arith}
use lib.ListN.{length}
use Rattle.code.specs.Verdict.{Verdict}
use Rattle.strip_words.proofs.Sizes.{used_parts}
use Rattle.strip_settling.proofs.Handing.{kept_handed, column_answer}
use Rattle.strip_settling.proofs.Behind.{left_so, put_so}
use Rattle.strip_settling.proofs.settle_column.Goals as goal

pub settle-requires : goal.settle-requires
settle-requires c =
    let a = c.args in
    let r = c.requires in
    kept_handed a.shape a.l a.c a.words.now a.marks.now r.0 r.1 (length a.word.now) c.take_kept.new.buffer r.2 c.take_kept.ensures (length a.message.now)
    (length a.room.now) r.3 r.4

pub returns-then-answer-ne0 : goal.returns-then-answer-ne0
returns-then-answer-ne0 c =
    let a = c.args in
    let r = c.requires in
    let t = c.settle in
    left_so a.shape a.l a.c a.words.now a.marks.now a.message.now t.new.message a.room.now t.new.work t.ensures.1 c.number_of-answer.result c.if-answer-ne0.true
    (column_answer a.shape a.l a.c a.words.now a.marks.now r.0 r.1 (length a.word.now) c.take_kept.new.buffer r.2 c.take_kept.ensures a.message.now t.new.message
    c.number_of-answer.result (rw c.number_of-answer.ensures t.ensures.0))

pub returns : goal.returns
returns c =
    let a = c.args in
    let r = c.requires in
    let t = c.settle in
    let n : a.shape.n * (a.shape.k + 1) ≤ length t.new.work = omega (arith, t.auto.work, r.4, used_parts a.shape.n a.shape.k a.l) in
    put_so a.shape a.l a.c a.words.now a.marks.now a.message.now t.new.message a.room.now t.new.work t.ensures.1 c.put_column.new.strips r.1 n
    (t.auto.message ∙ r.3)
    (column_answer a.shape a.l a.c a.words.now a.marks.now r.0 r.1 (length a.word.now) c.take_kept.new.buffer r.2 c.take_kept.ensures a.message.now t.new.message
    0 (subst (λ (x : ℕ). Verdict a.shape c.take_kept.new.buffer a.marks.now a.message.now t.new.message x) (sym c.number_of-answer.ensures ∙ c.if-answer-ne0.false) t.ensures.0))
    c.put_column.ensures
