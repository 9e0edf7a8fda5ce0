-- The losses of a group, where there is a mark for every slot: no place behind the slots counts. Assumes nothing.
--   losses_members    they are counted over its slots alone
use mathlib.Core.Path.{◌≡◌, ap}
use mathlib.Core.Bool.{Bool, false}
use mathlib.Core.List.{List}
use Prim.Native.Nat.{ℕ, ◌+◌, ◌-◌, ◌≤◌, ◌<◌}
use native.Mathlib.Decide.{dec_lt}
use native.Mathlib.Omega.{arith}
use lib.Dec.{eqb}
use lib.ListN.{length}
use Rattle.algebra.specs.Sequence.{at, count}
use Rattle.algebra.proofs.At.{at_past}
use Rattle.algebra.proofs.Counting.{count_add, count_none}
use Rattle.code.specs.declared.Shape.{Shape}
use Rattle.code.specs.Shape.{size, members, slot_at}
use Rattle.code.specs.Decoding.{lost}
use Rattle.code.specs.Erasure.{group_losses}
use Rattle.code.specs.Laws.{Placed}
use Rattle.code.proofs.Mates.{slot_member, members_most}

module _ (s : Shape) (P : Placed s) (ms : List ℕ) (long : length ms ≡ s.n) (j : ℕ) where
  gone : ℕ → Bool
  gone i = lost ms (slot_at s j i)

  -- the members that are no slots have no mark
  behind_kept : (i : ℕ) → members s j ≤ i → i < size s → gone i ≡ false
  unfolding gone lost
  behind_kept i h l = go (dec_lt (slot_at s j i) s.n)
    where
      go : Dec (slot_at s j i < s.n) → eqb (at ms (slot_at s j i)) 1 ≡ false
      go (yes d) = absurd (omega (arith, slot_member s P j i l d))
      go (no d) = ap (λ x. eqb x 1) (at_past ms (slot_at s j i) (omega arith))

  pub losses_members : group_losses s j ms ≡ count (λ i. lost ms (slot_at s j i)) (members s j)
  unfolding group_losses gone
  losses_members =
      let m : ℕ = members s j in
      let e : m + (size s - m) ≡ size s = omega (arith, members_most s P j) in
      omega (
        arith,
        ap (count gone) e,
        count_add gone m (size s - m),
        count_none (λ i. gone (m + i)) (size s - m) (λ i h. behind_kept (m + i) (omega arith) (omega arith)),
      )
