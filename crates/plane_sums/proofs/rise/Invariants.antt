use Rattle.lanes.specs.Lane.{shown}
use Rattle.plane_sums.specs.Level.{folded, entries}
use Rattle.plane_sums.proofs.Levels.{Levelling, Raised}
use Rattle.plane_sums.proofs.rise.Given as goal

-- the lanes below i have the symbols after all levels
abbrev pub invariant-loop-i : goal.invariant-loop-i
invariant-loop-i g l = Levelling (λ s i. folded (entries g.row.G l.plan l.m l.table s i) g.row.N (shown l.initial.t 0 s i)) l.i l.initial.t l.t

-- the lane has the symbols after k levels
abbrev pub invariant-loop-k : goal.invariant-loop-k
invariant-loop-k g l = Raised g.row.G l.k l.plan l.m l.table l.fn.t l.i l.v
