-- A row of the generator matrix. Assumes nothing: these are definitions.
--   GeneratorRow s p a z     == the buffer a has become z: slot p's row of the generator matrix in front
use Rattle.std.specs.Prelude.{◌≡◌, List, ℕ, ◌<◌, length}
use Rattle.algebra.specs.Sequence.{at}
use Rattle.code.specs.Shape.{point}
use Rattle.code.specs.Basis.{basis}
use Rattle.code.specs.declared.Shape.{Shape}

-- entry m is the value of basis polynomial m at the slot's point
pub record GeneratorRow (s : Shape) (p : ℕ) (a z : List ℕ) : Type 0 where
  pub size : length z ≡ length a
  pub entry : (m : ℕ) → m < s.k → at z m ≡ basis s m (point s p)
