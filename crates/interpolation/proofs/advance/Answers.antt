use lib.ListN.{length}
use Rattle.interpolation.proofs.Step.{place_skipped, place_taken, rooms_kept}
use Rattle.interpolation.proofs.advance.Goals as goal

pub returns-then-marks-i-eq1 : goal.returns-then-marks-i-eq1
returns-then-marks-i-eq1 c =
    let a = c.args in (
      c.requires.4,
      λ ws N. place_skipped a.field (length a.marks.now) a.points.now ws a.marks.now a.i a.c a.coefs.now a.basis.now a.values.now a.rests.now c.if-marks-i-eq1.true N,
    )

pub returns : goal.returns
returns c =
    let a = c.args in
    let v = c.inverse_of-v in
    let k = c.product-k in
    let h = c.sub-h in
    let w = c.block_end-m in
    let b = c.block_start-start in
    let e = c.block_end-end in
    let A = c.add_scaled in
    let B = c.add_scaled-2 in
    let C = c.mul_differences in
    let D = c.mul_linear in (
      rooms_kept a.coefs.now a.basis.now a.values.now a.rests.now A.new.target D.new.basis C.new.values B.new.target
          c.requires.4 A.ensures.size D.ensures.size C.ensures.size B.ensures.size,
      λ ws N.
          place_taken a.field (length a.marks.now) a.points.now ws a.marks.now a.i a.c a.coefs.now a.basis.now a.values.now a.rests.now
          A.new.target D.new.basis C.new.values B.new.target k.result v.result h.result w.result b.result e.result
          c.requires.3 c.requires.4 c.requires.1 c.if-marks-i-eq1.false w.ensures.0 b.ensures e.ensures.0
          v.ensures k.ensures h.ensures A.ensures B.ensures C.ensures D.ensures N,
    )
