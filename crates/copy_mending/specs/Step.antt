-- What a private step of decoding makes of a word: its mended copy. Assumes nothing: this is a definition.
--   MendedCopy s ws ms vs ns x   == vs with the marks ns is a word received, which just the same messages fit as fit ws with ms; x groups were mended
use Rattle.std.specs.Prelude.{◌≡◌, List, ℕ}
use Rattle.code.specs.declared.Shape.{Shape}
use Rattle.code.specs.Decoding.{fits}
use Rattle.code.specs.Pass.{mended}
use Rattle.code.specs.Step.{Received}

pub record MendedCopy (s : Shape) (ws ms vs ns : List ℕ) (x : ℕ) : Type 0 where
  pub received : Received s vs ns
  pub same : (xs : List ℕ) → fits s ws ms xs ≡ fits s vs ns xs
  pub number : x ≡ mended s ws ms
