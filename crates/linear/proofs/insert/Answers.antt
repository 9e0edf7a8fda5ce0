use mathlib.Core.Path.{ap}
use Prim.Native.Nat.{◌+◌, ◌*◌}
use lib.ListN.{set, length-set}
use Rattle.linear.proofs.Elimination.{entered, inserted}
use Rattle.linear.proofs.insert.Goals as goal

pub place-requires : goal.place-requires
place-requires c =
    let a = c.args in
    let t = a.k * (a.k + 1) + a.k in
    let u = c.sub-c in (entered a.field a.k a.v a.work.now (set a.work.now t u.result) c.requires.0 c.requires.1 c.requires.2
    (ap (λ x. set a.work.now t x) u.ensures) (length-set a.work.now t u.result))

pub returns : goal.returns
returns c =
    let a = c.args in
    let t = a.k * (a.k + 1) + a.k in
    let u = c.sub-c in
    let p = c.place in
    inserted a.field a.k a.v a.work.now (set a.work.now t u.result) c.requires.0 c.requires.1 c.requires.2
    (ap (λ x. set a.work.now t x) u.ensures) (length-set a.work.now t u.result) p.new.work p.result p.ensures
