-- Values of the groups' polynomials stored to strips. Assumes nothing.
--   kept_strip                a tile stored to a strip: other strips, and its columns before, are unchanged
--   slot_valued               the value at a slot's point is that of its group's coefficients
--   group_more                the members of a group stored one by one
--   groups_more               the groups stored one by one
--   plan_room, coefs_room     the plan of a slot and the coefficients of a group end inside their slices
use mathlib.Core.Path.{◌≡◌, sym, ap, ◌∙◌}
use mathlib.Core.Logic.{◌≢◌, ◌⊎◌, inl, inr}
use mathlib.Core.List.{List}
use Prim.Native.Nat.{ℕ, ◌+◌, ◌*◌, ◌≤◌, ◌<◌}
use native.Mathlib.Nat.{mul-le-mul}
use native.Mathlib.Decide.{dec_lt}
use native.Mathlib.Omega.{arith}
use Rattle.algebra.specs.Sequence.{at}
use Rattle.algebra.proofs.Strides.{row_step}
use Rattle.field.specs.Field.{power, times_from}
use Rattle.tiles.proofs.Sum.{sum_same}
use Rattle.lanes.specs.Lane.{shown}
use Rattle.tile_strips.specs.Tile.{Stored}
use Rattle.code.specs.declared.Shape.{Shape}
use Rattle.code.specs.Shape.{size, groups, room, group, member, slot_at, point}
use Rattle.code.specs.Laws.{Placed}
use Rattle.code.proofs.Places.{slot_room, member_below, slot_group_member, group_slot_at, slot_at_injective}
use Rattle.code.proofs.Bounds.{size_is, room_byte, n_most, r_most}
use Rattle.tile_evaluation.specs.Step.{value}
use Rattle.group_plans.proofs.Several.{tables_most}
use Rattle.group_values.specs.Value.{slot_value, GroupStored, GroupsStored}

kept_strip : (xs : List ℕ) (o l q c : ℕ) (a z : List ℕ) → c < l → Stored xs o l q c a z → (p d : ℕ) → d < l → (d < c) ⊎ (p ≢ q)
    → at z (p * l + d) ≡ at a (p * l + d)
kept_strip xs o l q c a z b S p d h k = go (dec_lt p q) (dec_lt q p) k
  where
    go : Dec (p < q) → Dec (q < p) → (d < c) ⊎ (p ≢ q) → at z (p * l + d) ≡ at a (p * l + d)
    go (yes e) f k = S.before (p * l + d) (omega (arith, row_step p q l e))
    go (no e) (yes f) k = S.behind (p * l + d) (omega (arith, row_step q p l f))
    go (no e) (no f) (inl k) = let s : p ≡ q = omega arith in S.before (p * l + d) (omega (arith, ap (λ n. n * l) s))
    go (no e) (no f) (inr k) = absurd (k (omega arith))

-- the coefficients of group j start at tile j r
pub slot_valued : (s : Shape) (xs : List ℕ) (p j t i : ℕ) → group s p ≡ j
    → value (point s p) s.r (λ e. shown xs (j * s.r * 256 + e * 256) t i) ≡ slot_value s (λ m. shown xs (m * 256)) p t i
unfolding slot_value value
slot_valued s xs p j t i g =
    sum_same 0 (λ e. times_from 8 (power 1 (point s p) e) (shown xs (j * s.r * 256 + e * 256) t i))
    (λ e. times_from 8 (power 1 (point s p) e) (shown xs ((group s p * s.r + e) * 256) t i)) s.r
    (λ e h. ap (λ n. times_from 8 (power 1 (point s p) e) (shown xs n t i)) (place e))
  where
    place : (e : ℕ) → j * s.r * 256 + e * 256 ≡ (group s p * s.r + e) * 256
    place e = omega (arith, ap (λ n. n * s.r) g)

module _ (s : Shape) (P : Placed s) (l c : ℕ) (b : c < l) (v : ℕ → ℕ → ℕ → ℕ) where
  pub group_more : (j n q : ℕ) (xs a y z : List ℕ) → q ≡ slot_at s j n → GroupStored s l c j n v a y → Stored xs 0 l q c y z
      → ((t i : ℕ) → t < 8 → i < 32 → shown xs 0 t i ≡ slot_value s v q t i)
      → GroupStored s l c j (n + 1) v a z
  group_more j n q xs a y z r G S e =
      record { size = S.size ∙ G.size; own = λ m t i h. own m t i (dec_lt m n) h; other = other }
    where
      kept : (p d : ℕ) → d < l → (d < c) ⊎ (p ≢ q) → at z (p * l + d) ≡ at y (p * l + d)
      kept = kept_strip xs 0 l q c y z b S

      own : (m t i : ℕ) → Dec (m < n) → m < n + 1 → t < 8 → i < 32 → c + (t * 32 + i) < l
          → at z (slot_at s j m * l + (c + (t * 32 + i))) ≡ slot_value s v (slot_at s j m) t i
      own m t i (yes d) h k f w =
          kept (slot_at s j m) (c + (t * 32 + i)) w (inr (λ o. absurd (omega (arith, slot_at_injective s P j m n (o ∙ r))))) ∙ G.own m t i d k f w
      own m t i (no d) h k f w =
          let u : m ≡ n = omega arith in
          let o : slot_at s j m ≡ q = ap (slot_at s j) u ∙ sym r in
          ap (λ x. at z (x * l + (c + (t * 32 + i)))) o ∙ S.own t i k f w ∙ e t i k f ∙ sym (ap (λ x. slot_value s v x t i) o)

      other : (p d : ℕ) → d < l → (d < c) ⊎ ((m : ℕ) → m < n + 1 → p ≢ slot_at s j m) → at z (p * l + d) ≡ at a (p * l + d)
      other p d h (inl k) = kept p d h (inl k) ∙ G.other p d h (inl k)
      other p d h (inr k) = kept p d h (inr (λ f. k n (omega arith) (f ∙ r))) ∙ G.other p d h (inr (λ m f. k m (omega arith)))

  pub groups_more : (j : ℕ) (a y z : List ℕ) → j < groups s → GroupsStored s l c j v a y → GroupStored s l c j (size s) v y z
      → GroupsStored s l c (j + 1) v a z
  groups_more j a y z g G S =
      record {
        size = S.size ∙ G.size;
        own = λ p t i h k. own p t i (dec_lt (group s p) j) h k;
        earlier = λ p d h k. S.other p d h (inl k) ∙ G.earlier p d h k;
      }
    where
      own : (p t i : ℕ) → Dec (group s p < j) → p < s.n → group s p < j + 1 → t < 8 → i < 32 → c + (t * 32 + i) < l
          → at z (p * l + (c + (t * 32 + i))) ≡ slot_value s v p t i
      own p t i (yes d) h k f w x =
          S.other p (c + (t * 32 + i)) x (inr (λ m o e. absurd (omega (arith, ap (group s) e ∙ group_slot_at s P j m g o)))) ∙ G.own p t i h d f w x
      own p t i (no d) h k f w x =
          let e : group s p ≡ j = omega arith in
          let o : slot_at s j (member s p) ≡ p = ap (λ y. slot_at s y (member s p)) (sym e) ∙ slot_group_member s P p in
          ap (λ y. at z (y * l + (c + (t * 32 + i)))) (sym o) ∙ S.own (member s p) t i (member_below s P p (slot_room s P p h)) f w x
          ∙ ap (λ y. slot_value s v y t i) o

module _ (s : Shape) (P : Placed s) (g : ℕ) (h : (g ≡ 1) ⊎ (g ≡ 4)) where
  pub plan_room : (p : ℕ) → p < s.n → p * 32 + g * 8 ≤ 8192
  plan_room p k = omega (arith, tables_most g h, n_most s P)

  pub coefs_room : (j : ℕ) → s.tolerance ≡ 1 → j < groups s → j * s.r * 256 + g * 1024 ≤ 65536
  unfolding room
  coefs_room j one k = omega (arith, tables_most g h, go (dec_lt j 15))
    where
      many : j * s.r + j + size s ≤ 255
      many =
          let e : size s ≡ s.r + 1 = omega (arith, size_is s) in
          omega (arith, row_step j (groups s) (size s) k, room_byte s P, ap (λ n. j * n) e)

      go : Dec (j < 15) → j * s.r ≤ 240
      go (yes d) = let m : j ≤ 14 = omega arith in omega (arith, mul-le-mul m (r_most s P))
      go (no d) = omega (arith, many, size_is s, P.r_least)
