use Prim.Native.Nat.{◌+◌, ◌*◌, ◌<◌}
use native.Mathlib.Omega.{arith}
use Rattle.algebra.proofs.Scattered.{scattered_more}
use Rattle.evaluation.proofs.Groups.{slot_room, slots_apart, group_scattered}
use Rattle.evaluation.proofs.write_group.Goals as goal
use Rattle.evaluation.proofs.write_group.Goals.{In-loop-i}

-- the member at hand has its slot in the word
inside : (c : In-loop-i)
    → c.first_of-first.result + c.loop-i.i * c.step_of-step.result < c.args.shape.n
inside c =
    let f = c.first_of-first in
    let t = c.step_of-step in
    slot_room c.args.shape c.requires.0 c.args.group c.requires.1 f.result t.result f.ensures t.ensures c.loop-i.i
    (omega (arith, c.members_of-members.ensures.0))

pub bounds-codeword-first : goal.bounds-codeword-first
bounds-codeword-first c = omega (arith, inside (goal.at.bounds-codeword-first c).In-loop-i, c.requires.2, c.loop-i.invariant.size)

pub loop-i-preserved : goal.loop-i-preserved
loop-i-preserved c =
    let a = c.args in
    let f = c.first_of-first in
    let t = c.step_of-step in
    let l = c.loop-i in
    scattered_more (λ m. f.result + m * t.result) c.group_symbols-symbols.result l.i a.codeword.now l.codeword
    (omega (arith, inside (goal.at.loop-i-preserved c).In-loop-i, c.requires.2, l.invariant.size))
    (λ i h. slots_apart a.shape c.requires.0 a.group c.requires.1 f.result t.result f.ensures t.ensures i l.i h) l.invariant

pub returns : goal.returns
returns c =
    let a = c.args in
    let f = c.first_of-first in
    let t = c.step_of-step in
    let v = c.group_symbols-symbols in
    let l = c.loop-i in
    group_scattered a.shape c.requires.0 a.group c.requires.1 f.result t.result f.ensures t.ensures a.c a.row.now v.result l.i
    a.codeword.now l.codeword (omega (arith, c.members_of-members.ensures.0)) v.ensures l.invariant
