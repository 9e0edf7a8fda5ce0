-- What has to hold of the buffers that are lent with a word before it is solved. Assumes nothing: these are definitions.
--   work_size s        == the bytes that the solver works in: k + 1 rows of k + 1
--   Task s ws ms a w   == a word received, room a for its message and w to work in
use Rattle.std.specs.Prelude.{◌≡◌, List, ℕ, ◌+◌, ◌*◌, ◌≤◌, length}
use Rattle.code.specs.Step.{Received}
use Rattle.code.specs.declared.Shape.{Shape}

abbrev pub work_size : Shape → ℕ
work_size s = s.k * (s.k + 1) + (s.k + 1)

pub record Task (s : Shape) (ws ms a w : List ℕ) : Type 0 where
  pub received : Received s ws ms
  pub message : length a ≡ s.k
  pub work : work_size s ≤ length w
