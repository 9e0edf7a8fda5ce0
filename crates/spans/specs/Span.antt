-- What a group's span of the word and the marks holds. Assumes nothing: these are definitions.
-- Member i of the group stands at i × step of its span.
--   lone s j ms              == group j has lost just one slot
--   part_mates s j i ws      == the symbols of member i's mates
use Rattle.std.specs.Prelude.{Bool, List, ℕ, ◌*◌, ◌-◌, eqb}
use Rattle.algebra.specs.Sequence.{at, tabulate, count}
use Rattle.code.specs.declared.Shape.{Shape}
use Rattle.code.specs.Shape.{step, members}
use Rattle.code.specs.Decoding.{lost}
use Rattle.layout.specs.Step.{mate_member}

unfoldable pub lone : Shape → (group : ℕ) → (marks : List ℕ) → Bool
lone s j ms = eqb (count (λ i. lost ms (i * step s)) (members s j)) 1

unfoldable pub part_mates : Shape → (group member : ℕ) → (part : List ℕ) → List ℕ
part_mates s j i ws = tabulate (λ k. at ws (mate_member i k * step s)) (members s j - 1)
