use mathlib.Core.Path.{refl, ap, ◌∙◌}
use Prim.Native.Nat.{◌+◌}
use native.Mathlib.Omega.{arith}
use lib.ListN.{length}
use Rattle.algebra.specs.Sequence.{at}
use Rattle.algebra.proofs.Filling.{filled_more, filled_all}
use Rattle.field.specs.Field.{xor_from}
use Rattle.field.proofs.Xor.{xor_is}
use Rattle.tiles.proofs.add.Invariants.{entry}
use Rattle.tiles.proofs.add.Goals as goal

pub loop-i-preserved : goal.loop-i-preserved
loop-i-preserved c =
    let l = c.loop-i in
    let a = c.args in
    let F = l.invariant in
    let t = a.t.now in
    let x = at a.strips.now (a.o + l.i) in
    filled_more (entry t a.strips.now a.o) l.i _ t l.t (omega (arith, F.size))
    (xor_is 8 (at l.t l.i) x (omega arith) (omega arith) ∙ ap (λ n. xor_from 8 n x) (F.above l.i (omega arith))) F

pub returns : goal.returns
returns c =
    let l = c.loop-i in
    let a = c.args in
    filled_all (entry a.t.now a.strips.now a.o) l.i (length a.t.now) a.t.now l.t (omega (arith, l.invariant.size)) refl l.invariant
