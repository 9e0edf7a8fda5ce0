use mathlib.Core.Path.{◌≡◌}
use Prim.Native.Nat.{ℕ, ◌+◌, ◌*◌, ◌/◌, ◌%◌, ◌≤◌, ◌<◌}
use native.Mathlib.Nat.{add_assoc, zero-mul, div-add-mod', mul-le-mul_right}
use native.Mathlib.Omega.{arith}
use Rattle.algebra.proofs.Strides.{row_step}
use Rattle.plane_sums.proofs.Rows.{risen_none, risen_more, risen_written}
use Rattle.plane_sums.proofs.write_row.Goals as goal

-- the entries of a turn end where those of the plan do, or before
room : (l n g : ℕ) → l < 8 / n → l * n * g + n * g ≤ 8 * g
room l n g h =
    let r : l * n + n ≤ 8 = omega (arith, row_step l (8 / n) n h, div-add-mod' 8 n) in
    omega (arith, mul-le-mul_right g r)

all : (l n : ℕ) → l ≡ 8 / n → 8 % n ≡ 0 → l * n ≡ 8
all l n e d = rw e (omega (arith, div-add-mod' 8 n, d))

pub loop-l-init : goal.loop-l-init
loop-l-init g c = rw zero-mul risen_none

pub rise-requires : goal.rise-requires
rise-requires g c =
    let l = c.loop-l in
    let r = room l.l g.row.N g.row.G c.loop-l-test.true in (
      l.invariant.size,
      l.invariant.bytes,
      omega (arith, r, c.requires.2),
      λ k h. rw (add_assoc c.args.m (l.l * g.row.N * g.row.G) k) (c.requires.3 (l.l * g.row.N * g.row.G + k) (omega (arith, r, h))),
      c.requires.4,
    )

pub loop-l-preserved : goal.loop-l-preserved
loop-l-preserved g c = risen_more (omega arith) (omega arith) c.rise.ensures c.loop-l.invariant

pub returns : goal.returns
returns g c = risen_written (all c.loop-l.l g.row.N (omega arith) c.requires.1) c.loop-l.invariant c.copy.ensures
