use mathlib.Core.Path.{refl}
use native.Mathlib.Omega.{arith}
use lib.ListN.{length}
use Rattle.algebra.proofs.Filling.{filled_none, filled_more, filled_all}
use Rattle.generator_matrix.specs.Step.{run}
use Rattle.generator_matrix.proofs.Runs.{run_none, run_more}
use Rattle.generator_matrix.proofs.fill_run.Goals as goal

pub loop-entry-init : goal.loop-entry-init
loop-entry-init c =
    let a = c.args in
    (run_none a.field a.x a.head 0 c.requires.0 c.requires.1, filled_none (run a.field a.x a.head 0) a.row.now)

pub loop-entry-preserved : goal.loop-entry-preserved
loop-entry-preserved c =
    let a = c.args in
    let l = c.loop-entry in
    let i = l.invariant in (
      run_more a.field a.x a.head 0 c.requires.0 c.requires.1 l.entry-index l.value c.mul-value.result (omega arith) i.0 c.mul-value.ensures,
      filled_more (run a.field a.x a.head 0) l.entry-index l.value a.row.now l.row (omega arith) i.0 i.1,
    )

pub returns : goal.returns
returns c =
    let a = c.args in
    let l = c.loop-entry in
    filled_all (run a.field a.x a.head 0) l.entry-index (length a.row.now) a.row.now l.row (omega arith) refl l.invariant.1
