-- The local pass, for groups that stand any number of losses. Assumes nothing: these are definitions.
--   kept_places s ms j      == the places of group j that are not lost, in order
--   sources s ms j          == the first r of them
--   mendable s ms j         == group j has lost one slot or more, and stands
--   repairs s ws ms j       == the pass repairs group j: it is mendable, and some codeword has its kept symbols
--   mends s ws ms p         == the pass restores slot p
--   mend s ws ms p          == its symbol, from the sources
--   passed, marks_after, mended    the word, the marks and the number of groups repaired after a local pass
use Rattle.std.specs.Prelude.{Bool, cond, ◌&&◌, List, [], ◌∷◌, ℕ, zero, suc, leb, take}
use Rattle.algebra.specs.Sequence.{at, tabulate, count}
use Rattle.code.specs.declared.Shape.{Shape}
use Rattle.code.specs.Shape.{size, groups, group, slot_at}
use Rattle.code.specs.Decoding.{lost}
use Rattle.code.specs.Erasure.{group_losses, stands}
use Rattle.code.specs.Repair.{restored, symbols_of}
use Rattle.code.specs.Held.{held}

unfoldable pub kept_from : Shape → (marks : List ℕ) → (left i j : ℕ) → List ℕ
kept_from s ms zero i j = []
kept_from s ms (suc l) i j = let p = slot_at s j i in cond (lost ms p) (kept_from s ms l (suc i) j) (p ∷ kept_from s ms l (suc i) j)

unfoldable pub kept_places : Shape → (marks : List ℕ) → (group : ℕ) → List ℕ
kept_places s ms j = kept_from s ms (size s) 0 j

unfoldable pub sources : Shape → (marks : List ℕ) → (group : ℕ) → List ℕ
sources s ms j = take s.r (kept_places s ms j)

unfoldable pub mendable : Shape → (marks : List ℕ) → (group : ℕ) → Bool
mendable s ms j = leb 1 (group_losses s j ms) && stands s ms j

unfoldable pub repairs : Shape → (word marks : List ℕ) → (group : ℕ) → Bool
repairs s ws ms j = mendable s ms j && held s (kept_places s ms j) (symbols_of ws (kept_places s ms j))

unfoldable pub mends : Shape → (word marks : List ℕ) → (slot : ℕ) → Bool
mends s ws ms p = lost ms p && repairs s ws ms (group s p)

unfoldable pub mend : Shape → (word marks : List ℕ) → (slot : ℕ) → ℕ
mend s ws ms p = let os = sources s ms (group s p) in restored s os os p (symbols_of ws os)

unfoldable pub passed : Shape → (word marks : List ℕ) → List ℕ
passed s ws ms = tabulate (λ p. cond (mends s ws ms p) (mend s ws ms p) (at ws p)) s.n

unfoldable pub marks_after : Shape → (word marks : List ℕ) → List ℕ
marks_after s ws ms = tabulate (λ p. cond (mends s ws ms p) 0 (at ms p)) s.n

unfoldable pub mended : Shape → (word marks : List ℕ) → ℕ
mended s ws ms = count (repairs s ws ms) (groups s)
