use mathlib.Core.Path.{◌≡◌, ◌∙◌}
use Prim.Native.Nat.{ℕ}
use native.Mathlib.Omega.{arith}
use lib.ListN.{length, length-replicate}
use Rattle.algebra.specs.Sequence.{at}
use Rattle.algebra.proofs.At.{at_zeros}
use Rattle.field.specs.Field.{q}
use Rattle.field.proofs.Elem.{zero_below}
use Rattle.interpolation.proofs.Marks.{masked_below, kept_enough}
use Rattle.interpolation.proofs.Uniqueness.{interpolated}
use Rattle.interpolation.proofs.interpolate.Goals as goal

pub settle-i-requires : goal.settle-i-requires
settle-i-requires c =
    let a = c.args in
    let d = c.load in
    let l : length d.new.rests ≡ 256 = d.ensures.size ∙ length-replicate {A = ℕ} 256 0 in (
      length-replicate {A = ℕ} 256 0,
      at_zeros 256,
      l,
      c.requires.0,
      record { below = c.requires.2; differ = c.requires.3 },
      λ p h. rw (d.ensures.put p (omega arith) h) (masked_below (q a.field) (at a.word.now p) (at a.marks.now p) (zero_below a.field) (c.requires.4 p h)),
      kept_enough a.marks.now (length a.marks.now) a.most c.requires.5,
    )

pub returns : goal.returns
returns c =
    let a = c.args in
    let d = c.load in
    let e = c.settle-i in
    interpolated a.field (length a.marks.now) a.most a.points.now a.word.now a.marks.now d.new.rests e.new.coefs e.new.rests
    e.result c.requires.0 record { below = c.requires.2; differ = c.requires.3 } (λ p h. d.ensures.put p (omega arith) h) e.ensures c.agree.result c.agree.ensures
