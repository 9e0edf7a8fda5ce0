use mathlib.Core.Path.{ap, ◌∙◌}
use Prim.Native.Nat.{◌+◌, ◌*◌, ◌-◌}
use native.Mathlib.Omega.{arith}
use lib.ListN.{length, take, drop}
use Rattle.field.specs.Field.{plus}
use Rattle.field.proofs.Products.{dotted_take, dotted_stop}
use Rattle.linear.specs.System.{entry, residue}
use Rattle.linear.proofs.value.Goals as goal

pub returns : goal.returns
unfolding residue
returns c =
    let a = c.args in
    let w = a.work.now in
    let b = a.i * (a.k + 1) in
    let e = c.requires.1 in
    c.add.ensures
    ∙ ap (λ x. plus a.field x (entry a.k w a.i a.k))
    (c.dot-sum.ensures ∙ dotted_take a.field a.k a.ys.now (take (length w - b) (drop b w)) e
    ∙ dotted_stop a.field (length w - b) a.ys.now (drop b w) (omega arith))
