use native.Mathlib.Omega.{arith}
use lib.ListN.{length}
use Rattle.code.proofs.Points.{point_below}
use Rattle.parity.proofs.Rows.{scale_below, run_terms}
use Rattle.parity.proofs.put_terms.Goals as goal

pub fill_run-requires : goal.fill_run-requires
fill_run-requires c =
    let a = c.args in
    let x = c.point_of-x in
    let b = point_below a.shape a.place in
    (omega (arith, x.ensures, b), omega (arith, c.scale_at-scale.ensures, scale_below a.shape x.result (omega (arith, x.ensures, b))))

pub returns : goal.returns
returns c =
    let x = c.point_of-x in
    let v = c.scale_at-scale in
    let a = c.args in
    run_terms a.shape a.place x.result v.result (length a.terms.now) c.fill_run.new.row x.ensures v.ensures c.fill_run.ensures
