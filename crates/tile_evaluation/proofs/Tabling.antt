-- Tables of tiles, four tiles a turn. Assumes nothing.
--   Tabling xs m h a z    == a has become z: the first h tables are written
--   tabling_more
use mathlib.Core.Path.{◌≡◌, ap, ◌∙◌}
use mathlib.Core.List.{List}
use Prim.Native.Nat.{ℕ, ◌+◌, ◌*◌, ◌<◌}
use native.Mathlib.Decide.{ℕ_discrete}
use native.Mathlib.Omega.{arith}
use lib.ListN.{length}
use Rattle.field.specs.Field.{pick}
use Rattle.tiles.proofs.Sum.{sum_same}
use Rattle.lanes.specs.Lane.{bit, shown}
use Rattle.plane_sums.specs.Step.{SumsOf, SumsWritten}
use Rattle.plane_sums.proofs.Shown.{shown_same}
use Rattle.tile_evaluation.specs.Step.{TablesAt}

pub record Tabling (xs : List ℕ) (m h : ℕ) (a z : List ℕ) : Type 0 where
  pub size : length z ≡ length a
  pub own : TablesAt xs m h z

pub tabling_more : (xs : List ℕ) (m h : ℕ) (a b z : List ℕ) → SumsWritten xs (m + h * 1024) (h * 4096) b z → Tabling xs m h a b → Tabling xs m (h + 1) a z
tabling_more xs m h a b z S T = record { size = S.size ∙ T.size; own = λ k c. go k c (ℕ_discrete k h) }
  where
    go : (k : ℕ) → k < h + 1 → Dec (k ≡ h) → SumsOf z (k * 4096) (λ e. shown xs (m + (k * 4 + e) * 256))
    go k c (yes d) =
        rw d
        (λ e s i b l r. S.own e s i b l r
        ∙ sum_same 0 (λ x. pick (bit x e) (shown xs (m + h * 1024 + x * 256) s i)) (λ x. pick (bit x e) (shown xs (m + (h * 4 + x) * 256) s i)) 4
        (λ x u. let q : m + h * 1024 + x * 256 ≡ m + (h * 4 + x) * 256 = omega arith in ap (λ p. pick (bit x e) (shown xs p s i)) q))
    go k c (no d) =
        λ e s i u l r.
        shown_same z b (k * 4096 + e * 256) (k * 4096 + e * 256) s i i (λ p v. S.before (k * 4096 + e * 256 + i + p * 32) (omega arith))
        ∙ T.own k (omega arith) e s i u l r
