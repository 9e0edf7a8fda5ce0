-- What private steps of decode are handed. Assumes nothing: these are definitions.
--   Handed s ws ms a b   == what the questions of decode leave: an accepted shape, and buffers of their lengths with kept symbols below q
use Rattle.std.specs.Prelude.{◌≡◌, true, List, ℕ, ◌+◌, ◌*◌, ◌≤◌, length}
use Rattle.code.specs.declared.Shape.{Shape}
use Rattle.code.specs.Erasure.{kept_below}
use Rattle.code.specs.Laws.{Decodable}

-- message and work are the lengths of their buffers
pub record Handed (s : Shape) (word marks : List ℕ) (message work : ℕ) : Type 0 where
  pub shape : Decodable s
  pub word_size : length word ≡ s.n
  pub marks_size : length marks ≡ s.n
  pub message_size : message ≡ s.k
  pub work_size : s.n * (s.k + 1) ≤ work
  pub kept : kept_below s word marks ≡ true
