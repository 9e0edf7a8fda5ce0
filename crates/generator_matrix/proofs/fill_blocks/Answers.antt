use mathlib.Core.Path.{refl}
use Prim.Native.Nat.{◌+◌, ◌-◌, ◌/◌}
use native.Mathlib.Omega.{arith}
use Rattle.algebra.proofs.Splicing.{splice}
use lib.ListN.{length}
use Rattle.field.proofs.Elem.{power_below}
use Rattle.generator_matrix.proofs.Runs.{filling_none, filling_more, filling_done}
use Rattle.generator_matrix.proofs.fill_blocks.Goals as goal

pub loop-m-init : goal.loop-m-init
loop-m-init c =
    let a = c.args in
    filling_none a.field a.x a.factor a.e a.r (length a.row.now) c.requires.2 a.row.now c.power_of-head.result c.power_of-head.ensures

pub fill_run-requires : goal.fill_run-requires
fill_run-requires c =
    let a = c.args in
    let l = c.loop-m in (
      c.requires.0,
      rw (l.invariant.first c.loop-m-test.true) (power_below a.field a.factor (a.e + l.m / a.r) c.requires.1),
    )

pub loop-m-preserved : goal.loop-m-preserved
loop-m-preserved c =
    let a = c.args in
    let l = c.loop-m in
    let w = c.min.result in
    filling_more a.field a.x a.factor a.e a.r (length a.row.now) c.requires.2 a.row.now l.m l.head l.row (omega arith) l.invariant
    w (l.m + w - l.m) (l.m + a.r) c.mul-head.result c.fill_run.new.row (omega arith) (omega arith) (omega arith) (omega arith)
    c.mul-head.ensures c.fill_run.ensures

pub returns : goal.returns
returns c =
    let a = c.args in
    let l = c.loop-m in
    filling_done a.field a.x a.factor a.e a.r (length a.row.now) c.requires.2 a.row.now l.m l.head l.row refl (omega arith) l.invariant

pub returns-2 : goal.returns-2
returns-2 c =
    let a = c.args in
    let l = c.loop-m in
    let w = c.min.result in
    let k = l.m + w - l.m in
    let y = c.mul-head.result in
    let t = c.fill_run.new.row in
    filling_done a.field a.x a.factor a.e a.r (length a.row.now) c.requires.2 a.row.now (l.m + w) y (splice l.m k l.row t) refl (omega arith)
    (filling_more a.field a.x a.factor a.e a.r (length a.row.now) c.requires.2 a.row.now l.m l.head l.row (omega arith) l.invariant
    w k (l.m + w) y t (omega arith) (omega arith) (omega arith) refl c.mul-head.ensures c.fill_run.ensures)
