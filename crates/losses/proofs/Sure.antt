-- The guarantee in closed form. Assumes nothing.
--   sure_is, blocks_least     the guarantee, and its blocks
use mathlib.Core.Path.{◌≡◌, ap, ◌∙◌}
use Prim.Native.Nat.{ℕ, ◌+◌, ◌*◌, ◌-◌, ◌/◌, ◌≤◌}
use native.Mathlib.Omega.{arith}
use Rattle.code.specs.declared.Shape.{Shape}
use Rattle.code.specs.Shape.{ceiling, missing}
use Rattle.code.specs.Codeword.{guarantee}
use Rattle.code.specs.Laws.{Family}
use Rattle.code.specs.Promise.{SharedAre}
use Rattle.code.proofs.Shared.{ceiling_is, shared_are}

-- the guarantee, where k is k + missing
module _ (s : Shape) (F : Family s) (none : s.second ≡ 0) (k : ℕ) (e : k ≡ s.k + missing s) where
  pub sure_is : guarantee s + s.k + s.tolerance * ((k + s.r - 1) / s.r - 1) ≡ s.n
  unfolding ceiling SharedAre
  sure_is = ap (λ n. guarantee s + s.k + s.tolerance * (ceiling n s.r - 1)) e ∙ (shared_are s F none).sure

  pub blocks_least : 1 ≤ (k + s.r - 1) / s.r
  unfolding ceiling
  blocks_least = omega (arith, ceiling_is k s.r (omega (arith, F.k_least)) F.placed.r_least)
