-- A way to a verdict that may give up. Assumes nothing: this is a definition.
--   Tried s ws ms a z t  == the verdict that t has; or it has none, and z is a
use Rattle.std.specs.Prelude.{◌≡◌, List, ℕ, Option, Some, None, Result}
use Rattle.code.specs.Verdict.{Verdict}
use Rattle.code.specs.declared.Shape.{Shape}
use Rattle.refusal.specs.Refusal.{number_of}
use Rattle.refusal.specs.declared.Refusal.{Refusal}

abbrev pub Tried : {A : Type 0} → Shape → (word marks before after : List ℕ) → Option (Result A Refusal) → Type 0
Tried s ws ms a z (Some r) = Verdict s ws ms a z (number_of r)
Tried s ws ms a z None = z ≡ a
