use mathlib.Core.Path.{◌≡◌}
use native.Mathlib.Omega.{arith}
use lib.ListN.{length}
use Rattle.elimination.proofs.Equations.{gathering_none, gathering_more, gathered_none, gathered_all}
use Rattle.elimination.proofs.gather.Goals as goal

pub loop-p-init : goal.loop-p-init
loop-p-init c =
    let a = c.args in
    let t = c.fill in
    let l : length t.new.self ≡ length a.work.now = t.auto.self in
    gathering_none a.shape a.word.now a.marks.now t.new.self (omega (arith, c.requires.2)) (rw (← l) at (t.ensures.after (λ y h. h)))

pub returns-then-not-take_slot : goal.returns-then-not-take_slot
returns-then-not-take_slot c =
    let a = c.args in
    let l = c.loop-p in
    let t = c.take_slot in
    gathered_none a.shape l.p a.word.now a.marks.now l.work t.new.work t.result c.loop-p-test.true l.invariant t.ensures
    c.if-not-take_slot.true

pub loop-p-preserved : goal.loop-p-preserved
loop-p-preserved c =
    let a = c.args in
    let l = c.loop-p in
    let t = c.take_slot in
    gathering_more a.shape l.p a.word.now a.marks.now l.work t.new.work t.result l.invariant t.ensures c.if-not-take_slot.false

pub returns : goal.returns
returns c =
    let a = c.args in
    let l = c.loop-p in
    gathered_all a.shape l.p a.word.now a.marks.now l.work (omega arith) l.invariant
