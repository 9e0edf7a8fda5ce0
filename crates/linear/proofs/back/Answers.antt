use mathlib.Core.Path.{◌≡◌, ◌∙◌}
use Prim.Native.Nat.{◌-◌}
use native.Mathlib.Omega.{arith}
use lib.ListN.{length, length-set}
use Rattle.linear.proofs.Substitution.{backing_none, backing_more, backed}
use Rattle.linear.proofs.back.Goals as goal

pub loop-j-init : goal.loop-j-init
loop-j-init c =
    let t = c.fill in
    let e : length c.args.solution.now ≡ c.args.k = c.requires.1 in
    backing_none c.args.field c.args.k c.args.work.now t.new.self (t.auto.self ∙ e) (rw e at (t.ensures.after (λ y h. h)))

pub loop-j-preserved : goal.loop-j-preserved
loop-j-preserved c =
    let l = c.loop-j in
    backing_more c.args.field c.args.k c.args.work.now l.solution l.j c.value-v.result c.requires.0 (omega arith) l.invariant
    c.value-v.ensures (length-set l.solution (l.j - 1) c.value-v.result)

pub returns : goal.returns
returns c =
    let l = c.loop-j in
    let e : l.j ≡ 0 = omega arith in
    backed c.args.field c.args.k c.args.work.now l.solution c.requires.0 (rw e at l.invariant)
