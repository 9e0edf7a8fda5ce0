-- The steps of elimination. Assumes nothing: these are definitions.
--   AgreesBelow s p ws ms ys == the codeword of ys has the symbols of ws at every kept slot below p
--   Taken                     what taking in slot p's equation leaves: just the solutions that agree there too; or there is none
--   Gathered                  the same of all slots
use Rattle.std.specs.Prelude.{◌≡◌, ◌≢◌, Bool, true, false, List, ℕ, ◌<◌}
use Rattle.algebra.specs.Sequence.{at}
use Rattle.code.specs.Codeword.{symbol}
use Rattle.code.specs.declared.Shape.{Shape}
use Rattle.linear.specs.System.{Vector, Solved, Echelon}

abbrev pub AgreesAt : Shape → (p : ℕ) → (word marks ys : List ℕ) → Type 0
AgreesAt s p ws ms ys = at ms p ≢ 1 → symbol s ys p ≡ at ws p

abbrev pub AgreesBelow : Shape → (p : ℕ) → (word marks ys : List ℕ) → Type 0
AgreesBelow s p ws ms ys = (i : ℕ) → i < p → AgreesAt s i ws ms ys

pub record Taken (s : Shape) (p : ℕ) (ws ms : List ℕ) (a b : List ℕ) (r : Bool) : Type 0 where
  pub echelon : Echelon s.field s.k b
  pub old : r ≡ true → (ys : List ℕ) → Vector s.field s.k ys → Solved s.field s.k b ys → Solved s.field s.k a ys
  pub new : r ≡ true → (ys : List ℕ) → Vector s.field s.k ys → Solved s.field s.k b ys → AgreesAt s p ws ms ys
  pub all :
      r ≡ true → (ys : List ℕ) → Vector s.field s.k ys → Solved s.field s.k a ys → AgreesAt s p ws ms ys
      → Solved s.field s.k b ys
  pub none : r ≡ false → (ys : List ℕ) → Vector s.field s.k ys → Solved s.field s.k a ys → AgreesAt s p ws ms ys → ⊥

pub record Gathered (s : Shape) (ws ms : List ℕ) (b : List ℕ) (r : Bool) : Type 0 where
  pub echelon : Echelon s.field s.k b
  pub agree : r ≡ true → (ys : List ℕ) → Vector s.field s.k ys → Solved s.field s.k b ys → AgreesBelow s s.n ws ms ys
  pub solve : r ≡ true → (ys : List ℕ) → Vector s.field s.k ys → AgreesBelow s s.n ws ms ys → Solved s.field s.k b ys
  pub none : r ≡ false → (ys : List ℕ) → Vector s.field s.k ys → AgreesBelow s s.n ws ms ys → ⊥
