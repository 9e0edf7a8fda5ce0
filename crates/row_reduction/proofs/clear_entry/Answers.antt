use mathlib.Core.Path.{refl}
use Prim.Native.Nat.{◌*◌}
use Rattle.field.proofs.Laws.{laws}
use Rattle.row_reduction.proofs.Reducing.{reduced_add}
use Rattle.row_reduction.proofs.clear_entry.Goals as goal

pub returns : goal.returns
returns c =
    let a = c.args in
    let v = c.mul-c in
    let r = c.add_row in
    reduced_add a.field a.n a.rows.now r.new.work a.a a.b v.result (a.a * 16) (a.b * 16) refl refl c.if-own.false
    (rw v.ensures ((laws a.field).times_below _ _)) c.requires.4 r.ensures c.requires.3
