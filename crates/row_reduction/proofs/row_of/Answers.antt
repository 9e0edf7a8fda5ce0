use mathlib.Core.Path.{ap, ◌∙◌}
use Prim.Native.Nat.{◌+◌, ◌*◌, ◌-◌}
use native.Mathlib.Omega.{arith}
use lib.ListN.{drop}
use lib.Seq.{get_or-take, get_or-drop}
use Rattle.algebra.specs.Sequence.{at}
use Rattle.algebra.proofs.Tabulate.{tabulate_is}
use Rattle.row_reduction.specs.Matrix.{matrix_row}
use Rattle.row_reduction.proofs.row_of.Goals as goal

pub returns : goal.returns
unfolding matrix_row
returns c =
    let xs = c.args.rows.now in
    let o = c.args.c * 16 in
    let t = c.copy_from_slice in
    tabulate_is (λ i. at xs (o + i)) 0 16 t.new.self t.ensures.len
    (λ i h. ap (λ row. at row i) t.ensures.after ∙ get_or-take (o + 16 - o) (drop o xs) i 0 (omega arith) ∙ get_or-drop o xs i 0)
