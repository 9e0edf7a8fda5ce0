use mathlib.Core.Path.{sym}
use Prim.Native.Nat.{◌+◌, ◌*◌}
use lib.Seq.{length-take-le}
use Rattle.copy_mending.proofs.Rows.{room, lent}
use Rattle.code.proofs.Working.{front_cleared, used_least}
use Rattle.decode_near.proofs.settle_near.Goals as goal

pub slice_bounds-solve_near-end-2 : goal.slice_bounds-solve_near-end-2
slice_bounds-solve_near-end-2 c =
    sym (length-take-le (c.args.shape.n * (c.args.shape.k + 1)) c.args.work.now c.requires.work_size)

pub slice_bounds-copy-end : goal.slice_bounds-copy-end
slice_bounds-copy-end c = room c.args.shape c.requires.shape

pub slice_bounds-solve_near-end-3 : goal.slice_bounds-solve_near-end-3
slice_bounds-solve_near-end-3 c = sym (lent c.args.shape c.requires.shape)

pub slice_bounds-left-end : goal.slice_bounds-left-end
slice_bounds-left-end c = room c.args.shape c.requires.shape

pub slice_bounds-solve_near-end-4 : goal.slice_bounds-solve_near-end-4
slice_bounds-solve_near-end-4 c = sym (lent c.args.shape c.requires.shape)

pub solve_near-requires : goal.solve_near-requires
solve_near-requires c =
    let H = c.requires in
    let n = c.args.shape in
    let l = lent n H.shape in (
      H.shape,
      record {
        received = record { word = H.word_size; marks = H.marks_size; kept = H.kept };
        message = H.message_size;
        work = rw (length-take-le (n.n * (n.k + 1)) c.args.work.now H.work_size) (used_least n H.shape.plain.family.k_below);
      },
      l,
      l,
    )

pub returns : goal.returns
returns c =
    let t = c.solve_near in
    (t.ensures.0, front_cleared c.args.shape c.args.work.now t.new.work c.requires.work_size t.ensures.1)
