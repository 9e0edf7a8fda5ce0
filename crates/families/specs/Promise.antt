-- What is promised of the families: every promise of crate code that asks for Family, Plain or Whole holds of them. Assumes nothing: these are statements.
--   DoubleAre, TwoWayAre            what an accepted shape is
--   WaysSame, WaysApart, WayBack    two ways home are two groupings of one code
--   Promises                           all of them
use Rattle.std.specs.Prelude.{◌≡◌, List, ℕ, ◌-◌, ◌<◌}
use Rattle.algebra.specs.Sequence.{In}
use Rattle.field.specs.Field.{q}
use Rattle.code.specs.declared.Code.{Code}
use Rattle.code.specs.Shape.{mates}
use Rattle.code.specs.Codeword.{encoded}
use Rattle.code.specs.Laws.{Family, Whole}
use Rattle.families.specs.Family.{double, two_way, double_refusal, sizes_refusal}

unfoldable pub DoubleAre : Type 0
DoubleAre = (c : Code) → double_refusal c ≡ 0 → Whole (double c)

unfoldable pub TwoWayAre : Type 0
TwoWayAre = (f u v k : ℕ) → sizes_refusal f u v k ≡ 0 → Family (two_way f u v k)

-- both sizes give the same codewords
unfoldable pub WaysSame : Type 0
WaysSame =
    (f u v k : ℕ) (xs : List ℕ) → sizes_refusal f u v k ≡ 0 → encoded (two_way f u v k) xs ≡ encoded (two_way f v u k) xs

-- the mates of the one way and of the other have no slot in common
unfoldable pub WaysApart : Type 0
WaysApart =
    (f u v k p m : ℕ) → sizes_refusal f u v k ≡ 0 → p < q f - 1 → In m (mates (two_way f u v k) p) → In m (mates (two_way f v u k) p) → ⊥

-- the exchanged sizes are a family too
unfoldable pub WayBack : Type 0
WayBack = (f u v k : ℕ) → sizes_refusal f u v k ≡ 0 → Family (two_way f v u k)

pub record Promises : Type 0 where
  pub double_are : DoubleAre
  pub two_way_are : TwoWayAre
  pub ways_same : WaysSame
  pub ways_apart : WaysApart
  pub way_back : WayBack
