-- The rows that are lent for a copy. Assumes nothing.
--   row           255 zeros
--   room, lent    it has room for a word, and its front of n has n entries
use mathlib.Core.Path.{◌≡◌}
use mathlib.Core.List.{List}
use Prim.Native.Nat.{ℕ, ◌≤◌}
use native.Mathlib.Omega.{arith}
use lib.ListN.{length, take, replicate, length-replicate}
use lib.Seq.{length-take-le}
use Rattle.code.specs.declared.Shape.{Shape}
use Rattle.code.specs.Laws.{Decodable}
use Rattle.code.proofs.Bounds.{n_most}

abbrev pub row : List ℕ
row = replicate 255 0

pub room : (s : Shape) → Decodable s → s.n ≤ length row
room s D = omega (arith, n_most s D.plain.family.placed, length-replicate {A = ℕ} 255 0)

pub lent : (s : Shape) → Decodable s → length (take s.n row) ≡ s.n
lent s D = length-take-le s.n row (room s D)
