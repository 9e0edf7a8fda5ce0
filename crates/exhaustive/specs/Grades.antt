-- Grades past the guarantee that the checker works out by the definition's own search. Assumes nothing: these are statements.
--   PairLost      field 0, r 1, n 2, k 1 with both slots lost: 4, after 169 pairs of messages at most
--   GroupLost     field 0, r 1, n 6, k 2 with slots 1, 3, 4, 5 lost: 3, after all 28,561 pairs
--   GradesTried   both
use Rattle.std.specs.Prelude.{◌≡◌, [], ◌∷◌}
use Rattle.code.specs.Erasure.{grade}
use Rattle.code.specs.Family.{code_of, single}

unfoldable pub PairLost : Type 0
PairLost = grade (single (code_of 0 1 2 1 0)) (1 ∷ 1 ∷ []) ≡ 4

unfoldable pub GroupLost : Type 0
GroupLost = grade (single (code_of 0 1 6 2 0)) (0 ∷ 1 ∷ 0 ∷ 1 ∷ 1 ∷ 1 ∷ []) ≡ 3

pub record GradesTried : Type 0 where
  pub pair_lost : PairLost
  pub group_lost : GroupLost
