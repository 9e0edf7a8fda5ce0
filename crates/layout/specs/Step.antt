-- What private steps of the layout answer. Assumes nothing: these are definitions.
--   mate_member o i  == the member that is mate i of member o: the members in order, but for o
--   mate_steps t o i == how many members it is from o on to mate i, round a group of t
--   span s j         == the slots from the first member of group j to its last
use Rattle.std.specs.Prelude.{cond, ℕ, suc, ◌+◌, ◌*◌, ◌-◌, ltb}
use Rattle.code.specs.declared.Shape.{Shape}
use Rattle.code.specs.Shape.{step, members}

unfoldable pub mate_member : (member i : ℕ) → ℕ
mate_member o i = cond (ltb i o) i (suc i)

unfoldable pub mate_steps : (size member i : ℕ) → ℕ
mate_steps t o i = cond (ltb i o) (t - o + i) (suc i - o)

unfoldable pub span : Shape → (group : ℕ) → ℕ
span s j = (members s j - 1) * step s + 1
