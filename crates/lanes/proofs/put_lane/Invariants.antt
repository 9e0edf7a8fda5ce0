use mathlib.Core.Path.{◌≡◌}
use mathlib.Core.Logic.{◌≢◌}
use Prim.Native.Nat.{ℕ, ◌+◌, ◌*◌, ◌<◌}
use Rattle.algebra.specs.Sequence.{at}
use Rattle.lanes.proofs.put_lane.Given as goal

-- the bytes below p are those of v, all else is unchanged
abbrev pub invariant-loop-p : goal.invariant-loop-p
invariant-loop-p l = record {
  own : (p : ℕ) → p < l.p → at l.t (l.o + p * 32) ≡ at l.v p;
  other : (x : ℕ) → ((p : ℕ) → p < l.p → x ≢ l.o + p * 32) → at l.t x ≡ at l.initial.t x;
}
