-- X times a polynomial. Assumes nothing.
--   shifted_by                    a row copied one place on, and a 0 in front
use mathlib.Core.Path.{◌≡◌, refl}
use mathlib.Core.List.{List, [], ◌∷◌}
use Prim.Native.Nat.{ℕ, ◌≤◌, ◌<◌}
use native.Mathlib.Omega.{arith}
use lib.ListN.{length, set, take}
use borrow.Rule.Slice.PartMut.{put_mid}
use Rattle.std.proofs.Common.{rules}
use Rattle.std.proofs.lemmas.List.{places}
use Rattle.interpolation.specs.Step.{Shifted}

pub shifted_by : (to k : ℕ) (a y z : List ℕ) → y ≡ take to a → to ≤ length a → 0 < length z → Shifted to a (set (put_mid 1 k z y) 0 0)
shifted_by to k a y [] e l h = absurd (omega arith)
shifted_by to k a y (x ∷ zs) e l h = record { first = refl; next = λ p b. search (rules, places) }
