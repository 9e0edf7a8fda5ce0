use mathlib.Core.Path.{sym}
use Prim.Native.Nat.{◌+◌, ◌*◌}
use lib.Seq.{length-take-le}
use Rattle.code.proofs.Working.{front_cleared, used_least}
use Rattle.grading.proofs.Grades.{graded_by}
use Rattle.grading.proofs.graded_in.Goals as goal

pub slice_bounds-grade_of-end-2 : goal.slice_bounds-grade_of-end-2
slice_bounds-grade_of-end-2 c =
    sym (length-take-le (c.args.shape.n * (c.args.shape.k + 1)) c.args.work.now c.requires.work_size)

pub grade_of-grade-requires : goal.grade_of-grade-requires
grade_of-grade-requires c =
    let h = c.args.shape in
    let H = c.requires in (
      H.shape,
      H.marks_size,
      c.count_lost-lost.ensures,
      c.first_of-first.ensures,
      rw (length-take-le (h.n * (h.k + 1)) c.args.work.now H.work_size) (used_least h H.shape.plain.family.k_below),
    )

pub returns : goal.returns
returns c =
    let t = c.grade_of-grade in (
      graded_by c.args.shape c.args.marks.now _ _ _ c.count_lost-lost.ensures t.ensures.0 c.first_of-first.ensures,
      front_cleared c.args.shape c.args.work.now t.new.work c.requires.work_size t.ensures.1,
    )
