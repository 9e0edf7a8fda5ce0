-- The slots of a group written one after another, and the groups of a word. Assumes nothing.
--   slot_room, slots_apart       a group's slots are below n, and differ
--   group_scattered              the symbols of a group, each written to its slot
--   GroupsWritten s c rs j z      == the first j groups of z hold their symbols
--   groups_none, groups_more, groups_all       none yet; one more; all values
use mathlib.Core.Path.{◌≡◌, sym, ap, ◌∙◌}
use mathlib.Core.Logic.{◌≢◌}
use mathlib.Core.List.{List}
use Prim.Native.Nat.{ℕ, ◌+◌, ◌*◌, ◌<◌}
use native.Mathlib.Decide.{ℕ_discrete}
use native.Mathlib.Omega.{arith}
use lib.ListN.{length}
use Rattle.algebra.specs.Sequence.{at}
use Rattle.algebra.proofs.Tabulate.{tabulate_is}
use Rattle.algebra.proofs.Scattered.{Scattered}
use Rattle.code.specs.Shape.{groups, group, member, members, first, step, slot_at}
use Rattle.code.specs.Laws.{Placed}
use Rattle.code.specs.declared.Shape.{Shape}
use Rattle.code.proofs.Places.{n_room, group_below, member_below, slot_group_member, group_slot_at, slot_at_later}
use Rattle.code.proofs.Mates.{member_slot, member_own, members_most}
use Rattle.layout.proofs.Numbers.{slot_is}
use Rattle.local_code.specs.Step.{local_value, GroupSymbols}
use Rattle.evaluation.specs.Step.{evaluated, GroupWritten}

-- the slots of group j, by the numbers f and t that the layout gives
module _ (s : Shape) (P : Placed s) (j : ℕ) (g : j < groups s) (f t : ℕ) (e : f ≡ first s j) (d : t ≡ step s) where
  pub slot_room : (i : ℕ) → i < members s j → f + i * t < s.n
  slot_room i h = omega (arith, slot_is s j i f t e d, member_slot s P j i h)

  pub slots_apart : (i o : ℕ) → i < o → f + i * t ≢ f + o * t
  slots_apart i o h x = omega (arith, slot_is s j i f t e d, slot_is s j o f t e d, slot_at_later s P j i o h)

  pub group_scattered : (c : ℕ) (rs vs : List ℕ) (l : ℕ) (a z : List ℕ) → l ≡ members s j → GroupSymbols s c rs j vs → Scattered (λ i. f + i * t) vs l a z
      → GroupWritten s c rs j a z
  group_scattered c rs vs l a z x G S = record { room = S.size; own = own; other = other }
    where
      own : (p : ℕ) → p < s.n → group s p ≡ j → at z p ≡ local_value s c rs p
      own p h y =
          let m = member s p in
          let b = member_below s P p (omega (arith, n_room s P)) in
          let k : slot_at s j m ≡ p = ap (λ n. slot_at s n m) (sym y) ∙ slot_group_member s P p in
          let i : m < members s j = rw y at (member_own s P p h) in
          ap (at z) (sym (slot_is s j m f t e d ∙ k)) ∙ S.written m (omega arith) ∙ G.entry m b ∙ ap (local_value s c rs) k

      other : (p : ℕ) → group s p ≢ j → at z p ≡ at a p
      other p n = S.rest p (λ i b y. n (ap (group s) (y ∙ slot_is s j i f t e d) ∙ group_slot_at s P j i g (omega (arith, members_most s P j))))

pub record GroupsWritten (s : Shape) (c : ℕ) (rs : List ℕ) (j : ℕ) (z : List ℕ) : Type 0 where
  pub room : length z ≡ s.n
  pub own : (p : ℕ) → p < s.n → group s p < j → at z p ≡ local_value s c rs p

module _ (s : Shape) (c : ℕ) (rs : List ℕ) where
  pub groups_none : (z : List ℕ) → length z ≡ s.n → GroupsWritten s c rs 0 z
  groups_none z e = record { room = e; own = λ p b h. absurd (omega arith) }

  pub groups_more : (j : ℕ) (a z : List ℕ) → GroupWritten s c rs j a z → GroupsWritten s c rs j a → GroupsWritten s c rs (j + 1) z
  groups_more j a z W S = record { room = W.room ∙ S.room; own = λ p b h. go p b h (ℕ_discrete (group s p) j) }
    where
      go : (p : ℕ) → p < s.n → group s p < j + 1 → Dec (group s p ≡ j) → at z p ≡ local_value s c rs p
      go p b h (yes e) = W.own p b e
      go p b h (no n) = W.other p n ∙ S.own p b (omega arith)

  pub groups_all : Placed s → (j : ℕ) (z : List ℕ) → j ≡ groups s → GroupsWritten s c rs j z → z ≡ evaluated s c rs
  unfolding evaluated
  groups_all P j z e S =
      tabulate_is (local_value s c rs) 0 s.n z S.room (λ p h. S.own p h (omega (arith, group_below s P p (omega (arith, n_room s P)))))
