-- What the private steps are handed and say. Assumes nothing: these are definitions.
--   Task s l ws ms                 == what the questions on strips leave: an accepted shape, and strips and marks of their lengths with kept symbols below q
--   ColumnSettled s l ws ms c x a z  == x is decode's answer of column c, and the messages' strips a have become z: where x is 0 column c is the
--                                     message, the other columns are unchanged
use Rattle.std.specs.Prelude.{◌≡◌, ◌≢◌, true, List, ℕ, ◌*◌, ◌≤◌, ◌<◌, length}
use Rattle.algebra.specs.Sequence.{column}
use Rattle.code.specs.declared.Shape.{Shape}
use Rattle.code.specs.Laws.{Decodable}
use Rattle.code.specs.Verdict.{Verdict}
use Rattle.strip_words.specs.Strips.{kept_strips_below}

pub record Task (s : Shape) (l : ℕ) (words marks : List ℕ) : Type 0 where
  pub shape : Decodable s
  pub least : 1 ≤ l
  pub most : l ≤ 4096
  pub words_size : length words ≡ s.n * l
  pub marks_size : length marks ≡ s.n
  pub kept : kept_strips_below s l words marks ≡ true

pub record ColumnSettled (s : Shape) (l : ℕ) (ws ms : List ℕ) (c x : ℕ) (a z : List ℕ) : Type 0 where
  pub before : List ℕ
  pub after : List ℕ
  pub verdict : Verdict s (column s.n l c ws) ms before after x
  pub own : x ≡ 0 → column s.k l c z ≡ after
  pub other : (d : ℕ) → d < l → d ≢ c → column s.k l d z ≡ column s.k l d a
