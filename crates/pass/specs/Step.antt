-- What a private step of the local pass answers. Assumes nothing: this is a definition.
--   group_reads_below s j ws ms   == every symbol that the pass reads of group j is below q
use Rattle.std.specs.Prelude.{Bool, not, ◌||◌, List, ℕ, ltb}
use Rattle.algebra.specs.Sequence.{at, every}
use Rattle.field.specs.Field.{q}
use Rattle.code.specs.declared.Shape.{Shape}
use Rattle.code.specs.Shape.{members, slot_at}
use Rattle.pass.specs.Pass.{reads}

unfoldable pub group_reads_below : Shape → (group : ℕ) → (word marks : List ℕ) → Bool
group_reads_below s j ws ms = every (λ i. not (reads s ms (slot_at s j i)) || ltb (at ws (slot_at s j i)) (q s.field)) (members s j)
