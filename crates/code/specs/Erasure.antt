-- Losses and the grade. A place that is no slot counts as kept. Assumes nothing: these are definitions.
--   lost_number s ms      == how many slots are lost
--   group_losses s j ms   == how many of group j
--   stands s ms j         == no more than its tolerance
--   first_broken s ms     == the first group that does not stand, 255 if none
--   grade s ms            == 0 nothing lost; 1 every group mends itself; 2 within the guarantee; 3 beyond it, and yet decided by the kept
--                            slots; 4 some two different codewords agree on them
--   kept_below s ws ms    == every kept symbol is below q
use Rattle.std.specs.Prelude.{Bool, cond, ◌||◌, List, ℕ, zero, suc, leb, ltb, eqb}
use Rattle.algebra.specs.Sequence.{at, count, every}
use Rattle.field.specs.Field.{q}
use Rattle.code.specs.declared.Shape.{Shape}
use Rattle.code.specs.Shape.{size, groups, slot_at}
use Rattle.code.specs.Codeword.{guarantee}
use Rattle.code.specs.Decoding.{lost, undecided}

unfoldable pub lost_number : Shape → (marks : List ℕ) → ℕ
lost_number s ms = count (lost ms) s.n

unfoldable pub group_losses : Shape → (group : ℕ) → (marks : List ℕ) → ℕ
group_losses s j ms = count (λ i. lost ms (slot_at s j i)) (size s)

unfoldable pub stands : Shape → (marks : List ℕ) → (group : ℕ) → Bool
stands s ms j = leb (group_losses s j ms) s.tolerance

unfoldable pub first_from : (left j : ℕ) → Shape → (marks : List ℕ) → ℕ
first_from zero j s ms = 255
first_from (suc l) j s ms = cond (stands s ms j) (first_from l (suc j) s ms) j

unfoldable pub first_broken : Shape → (marks : List ℕ) → ℕ
first_broken s ms = first_from (groups s) 0 s ms

unfoldable pub grade : Shape → (marks : List ℕ) → ℕ
grade s ms =
    cond (eqb (lost_number s ms) 0) 0
    (cond (every (stands s ms) (groups s)) 1
    (cond (leb (lost_number s ms) (guarantee s)) 2
    (cond (undecided s ms) 4 3)))

unfoldable pub kept_below : Shape → (word marks : List ℕ) → Bool
kept_below s ws ms = every (λ p. lost ms p || ltb (at ws p) (q s.field)) s.n
