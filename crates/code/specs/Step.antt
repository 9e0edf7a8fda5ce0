-- What private steps of decoding are handed. Assumes nothing: these are definitions.
--   Received s ws ms   == n symbols ws and n marks ms, and every kept symbol is below q
use Rattle.std.specs.Prelude.{◌≡◌, true, List, length, ℕ}
use Rattle.code.specs.declared.Shape.{Shape}
use Rattle.code.specs.Erasure.{kept_below}

pub record Received (s : Shape) (ws ms : List ℕ) : Type 0 where
  pub word : length ws ≡ s.n
  pub marks : length ms ≡ s.n
  pub kept : kept_below s ws ms ≡ true
