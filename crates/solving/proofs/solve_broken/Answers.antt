use mathlib.Core.Path.{sym}
use Rattle.copy_mending.proofs.Rows.{room, lent}
use Rattle.solving.proofs.solve_broken.Goals as goal

pub slice_bounds-copy-end : goal.slice_bounds-copy-end
slice_bounds-copy-end c = room c.args.shape c.requires.0

pub slice_bounds-solve_mended-end : goal.slice_bounds-solve_mended-end
slice_bounds-solve_mended-end c = sym (lent c.args.shape c.requires.0)

pub slice_bounds-left-end : goal.slice_bounds-left-end
slice_bounds-left-end c = room c.args.shape c.requires.0

pub slice_bounds-solve_mended-end-2 : goal.slice_bounds-solve_mended-end-2
slice_bounds-solve_mended-end-2 c = sym (lent c.args.shape c.requires.0)

pub solve_mended-verdict-requires : goal.solve_mended-verdict-requires
solve_mended-verdict-requires c =
    let l = lent c.args.shape c.requires.0 in
    (c.requires.0, c.requires.1.received, c.requires.1.message, l, l)
