use mathlib.Core.Path.{sym}
use Prim.Native.Nat.{◌+◌, ◌*◌}
use lib.Seq.{length-take-le}
use Rattle.code.proofs.Working.{front_cleared, used_least}
use Rattle.decode.proofs.settle.Goals as goal

pub slice_bounds-solve-end-2 : goal.slice_bounds-solve-end-2
slice_bounds-solve-end-2 c =
    sym (length-take-le (c.args.shape.n * (c.args.shape.k + 1)) c.args.work.now c.requires.work_size)

pub solve-requires : goal.solve-requires
solve-requires c =
    let H = c.requires in (
      H.shape,
      record {
        received = record { word = H.word_size; marks = H.marks_size; kept = H.kept };
        message = H.message_size;
        work = rw (length-take-le (c.args.shape.n * (c.args.shape.k + 1)) c.args.work.now H.work_size) (used_least c.args.shape H.shape.plain.family.k_below);
      },
    )

pub returns : goal.returns
returns c =
    let a = c.args in
    let t = c.solve in
    (t.ensures.0, front_cleared a.shape a.work.now t.new.work c.requires.work_size t.ensures.1)
