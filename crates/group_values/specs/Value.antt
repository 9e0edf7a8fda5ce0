-- The values of the groups' polynomials in strips of codewords, on tiles of 256 columns. Assumes nothing: these are definitions.
--   slot_value s v j p t i    == the value at the point of slot p of the polynomial whose coefficient e is v (j r + e) t i
--   GroupStored .. a z       == a has become z: the slots of group j below member n have these values in the columns from c on; the columns
--                                before c and the other slots are unchanged
--   GroupsStored .. a z      == the same of all groups below j
use Rattle.std.specs.Prelude.{◌≡◌, ◌≢◌, ◌⊎◌, List, ℕ, ◌+◌, ◌*◌, ◌<◌, length}
use Rattle.algebra.specs.Sequence.{at}
use Rattle.code.specs.declared.Shape.{Shape}
use Rattle.code.specs.Shape.{group, slot_at, point}
use Rattle.tile_evaluation.specs.Step.{value}

unfoldable pub slot_value : Shape → (v : ℕ → ℕ → ℕ → ℕ) → (p t i : ℕ) → ℕ
slot_value s v p t i = value (point s p) s.r (λ e. v (group s p * s.r + e) t i)

pub record GroupStored (s : Shape) (l c j n : ℕ) (v : ℕ → ℕ → ℕ → ℕ) (a z : List ℕ) : Type 0 where
  pub size : length z ≡ length a
  pub own : (m t i : ℕ) → m < n → t < 8 → i < 32 → c + (t * 32 + i) < l
      → at z (slot_at s j m * l + (c + (t * 32 + i))) ≡ slot_value s v (slot_at s j m) t i
  pub other : (p d : ℕ) → d < l → ((d < c) ⊎ ((m : ℕ) → m < n → p ≢ slot_at s j m)) → at z (p * l + d) ≡ at a (p * l + d)

pub record GroupsStored (s : Shape) (l c j : ℕ) (v : ℕ → ℕ → ℕ → ℕ) (a z : List ℕ) : Type 0 where
  pub size : length z ≡ length a
  pub own : (p t i : ℕ) → p < s.n → group s p < j → t < 8 → i < 32 → c + (t * 32 + i) < l
      → at z (p * l + (c + (t * 32 + i))) ≡ slot_value s v p t i
  pub earlier : (p d : ℕ) → d < l → d < c → at z (p * l + d) ≡ at a (p * l + d)
