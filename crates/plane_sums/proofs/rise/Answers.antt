use mathlib.Core.Path.{◌≡◌, refl, ap, ◌∙◌}
use Prim.Native.Nat.{◌+◌, ◌*◌, ◌≤◌}
use native.Mathlib.Nat.{add_assoc}
use native.Mathlib.Omega.{arith}
use Rattle.std.proofs.Common.{add-one}
use Rattle.algebra.proofs.Strides.{row_step}
use Rattle.lanes.specs.Lane.{shown}
use Rattle.plane_sums.specs.Level.{folded, entries}
use Rattle.plane_sums.proofs.Levels.{level_entries, levelling_more, raised_none, raised_more}
use Rattle.plane_sums.proofs.rise.Goals as goal

pub loop-k-init : goal.loop-k-init
loop-k-init g c =
    let a = c.args in
    let l = c.loop-i in
    raised_none g.row.G a.plan.now a.m a.table.now a.t.now l.i _ l.t _ c.loop-i-test.true c.lane_of-v.ensures l.invariant

pub entry_lane-e-requires : goal.entry_lane-e-requires
entry_lane-e-requires g c =
    let a = c.args in
    let k = c.loop-k.k in
    let room : k * g.row.G + g.row.G ≤ g.row.N * g.row.G = row_step k g.row.N g.row.G c.loop-k-test.true in (
      omega (arith, room, c.requires.2),
      λ h b. rw (add_assoc a.m (k * g.row.G) h) (c.requires.3 (k * g.row.G + h) (omega (arith, room, b))),
      c.requires.4,
      c.loop-i-test.true,
    )

pub loop-k-preserved : goal.loop-k-preserved
loop-k-preserved g c =
    let a = c.args in
    let k = c.loop-k.k in
    rw add-one
    (raised_more g.row.G a.plan.now a.m a.table.now a.t.now c.loop-i.i k _ _ _
    (λ s b. c.entry_lane-e.ensures.1 s b ∙ level_entries a.plan.now a.m a.table.now c.loop-i.i g.row.G k (a.m + k * g.row.G) s refl)
    c.level-v.ensures c.loop-k.invariant)

pub loop-i-preserved : goal.loop-i-preserved
loop-i-preserved g c =
    let a = c.args in
    let l = c.loop-i in
    let k = c.loop-k in
    let e : k.k ≡ g.row.N = omega (arith, c.loop-k-test.false) in
    levelling_more _ l.i k.v a.t.now l.t _ c.loop-i-test.true c.put_lane.ensures k.invariant.bytes
    (λ s b. k.invariant.own s b ∙ ap (λ n. folded (entries g.row.G a.plan.now a.m a.table.now s l.i) n (shown a.t.now 0 s l.i)) e) l.invariant
