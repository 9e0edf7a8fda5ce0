use Prim.Native.Nat.{ℕ, ◌-◌}
use native.Mathlib.Omega.{arith}
use lib.ListN.{length, length-replicate}
use Rattle.algebra.specs.Sequence.{count}
use Rattle.algebra.proofs.At.{at_zeros}
use Rattle.algebra.proofs.Counting.{count_most}
use Rattle.interpolation.specs.Step.{kept, Nodes}
use Rattle.annihilator.proofs.Answer.{annihilated, annihilated_fewer}
use Rattle.annihilator.proofs.only_zero.Goals as goal
use Rattle.annihilator.proofs.only_zero.Goals.{Start}

nodes : (c : Start) → Nodes c.args.field (length c.args.marks.now) c.args.points.now
nodes c = record { below = c.requires.2; differ = c.requires.3 }

pub returns-then-t-gaps : goal.returns-then-t-gaps
returns-then-t-gaps c =
    let a = c.args in
    let k = c.count_kept in
    annihilated_fewer a.field (length a.marks.now) a.size a.r a.gaps a.most (a.most - k.result) a.points.now a.marks.now (nodes (goal.at.returns-then-t-gaps c).Start) c.requires.0
    (omega (arith, k.ensures, c.requires.4)) c.requires.5 c.if-t-gaps.true

pub vanishing-requires : goal.vanishing-requires
vanishing-requires c =
    (length-replicate {A = ℕ} 256 0, at_zeros 256, c.requires.0, c.requires.2)

pub returns : goal.returns
returns c =
    let a = c.args in
    let n = length a.marks.now in
    let k = c.count_kept in
    let v = c.vanishing in
    let o = c.only_cofactor in
    annihilated a.field n a.size a.r a.gaps a.most (a.most - k.result) (count (kept a.marks.now) n) a.points.now a.marks.now
    v.new.row (nodes (goal.at.returns c).Start) v.ensures (omega (arith, c.requires.0, count_most (kept a.marks.now) n)) (omega (arith, k.ensures, c.requires.4)) c.requires.5
    o.result o.ensures
