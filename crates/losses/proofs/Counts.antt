-- The losses of a group counted member by member, and the first broken group. Assumes nothing.
--   losses_to s ms j i        == the losses among the first i members of group j
--   member_place              the slot of a member
--   member_yes, member_no     one member more
--   found, found_none         the first broken group, where all before it stand
use mathlib.Core.Path.{◌≡◌, refl, sym, ap, ◌∙◌}
use mathlib.Core.Logic.{◌≢◌}
use mathlib.Core.Bool.{Bool, true, false, cond}
use mathlib.Core.List.{List}
use Prim.Native.Nat.{ℕ, zero, suc, ◌+◌, ◌*◌, ◌-◌, ◌≤◌, ◌<◌}
use native.Mathlib.Omega.{arith}
use borrow.Author.Tests.{eq-eqb, ne_eqb, le-leb, lt-leb}
use lib.ListN.{length}
use Rattle.algebra.specs.Sequence.{at, count}
use Rattle.algebra.proofs.Counting.{count_yes, count_no, count_mono}
use Rattle.code.specs.declared.Shape.{Shape}
use Rattle.code.specs.Shape.{groups, first, step, members, slot_at}
use Rattle.code.specs.Decoding.{lost}
use Rattle.code.specs.Erasure.{group_losses, stands, first_from, first_broken}
use Rattle.code.specs.Laws.{Placed}
use Rattle.code.proofs.Mates.{member_slot}
use Rattle.code.proofs.Losing.{losses_members}
use Rattle.layout.proofs.Numbers.{slot_is}

unfoldable pub member_lost : Shape → (marks : List ℕ) → (group member : ℕ) → Bool
member_lost s ms j i = lost ms (slot_at s j i)

abbrev pub losses_to : Shape → (marks : List ℕ) → (group members : ℕ) → ℕ
losses_to s ms j i = count (member_lost s ms j) i

pub member_place : (s : Shape) → Placed s → (j i f t : ℕ) → i < members s j → f ≡ first s j → t ≡ step s → f + i * t < s.n
member_place s P j i f t l e d = omega (arith, slot_is s j i f t e d, member_slot s P j i l)

-- one member more, in slot p
module _ (s : Shape) (ms : List ℕ) (j i p x : ℕ) (e : p ≡ slot_at s j i) (h : x ≡ losses_to s ms j i) where
  pub member_yes : at ms p ≡ 1 → x + 1 ≡ losses_to s ms j (i + 1)
  unfolding member_lost lost
  member_yes m = ap (λ n. n + 1) h ∙ count_yes (member_lost s ms j) i (eq-eqb (at ms (slot_at s j i)) 1 (sym (ap (at ms) e) ∙ m))

  pub member_no : at ms p ≢ 1 → x ≡ losses_to s ms j (i + 1)
  unfolding member_lost lost
  member_no m = h ∙ count_no (member_lost s ms j) i (ne_eqb (at ms (slot_at s j i)) 1 (λ z. m (ap (at ms) e ∙ z)))

module _ (s : Shape) (P : Placed s) (ms : List ℕ) (long : length ms ≡ s.n) where
  losses_is : (j : ℕ) → group_losses s j ms ≡ losses_to s ms j (members s j)
  unfolding member_lost
  losses_is j = losses_members s P ms long j

  standing : (j : ℕ) → losses_to s ms j (members s j) ≤ s.tolerance → stands s ms j ≡ true
  unfolding stands
  standing j l = le-leb (group_losses s j ms) s.tolerance (omega (arith, losses_is j))

  -- too many losses before the end
  broken : (j i : ℕ) → i ≤ members s j → s.tolerance < losses_to s ms j i → stands s ms j ≡ false
  unfolding stands
  broken j i h l = lt-leb (group_losses s j ms) s.tolerance (omega (arith, losses_is j, count_mono (member_lost s ms j) i (members s j) h))

  step_from : (j : ℕ) → j < groups s → first_from (groups s - j) j s ms ≡ cond (stands s ms j) (first_from (groups s - suc j) (suc j) s ms) j
  unfolding first_from
  step_from j h = let e : groups s - j ≡ suc (groups s - suc j) = omega arith in rw e refl

  -- the search goes on from j where all groups before it stand
  search_from : (j : ℕ) → j ≤ groups s → ((i : ℕ) → i < j → losses_to s ms i (members s i) ≤ s.tolerance)
      → first_broken s ms ≡ first_from (groups s - j) j s ms
  unfolding first_broken
  search_from zero h l = let e : groups s ≡ groups s - 0 = omega arith in ap (λ n. first_from n 0 s ms) e
  search_from (suc j) h l =
      search_from j (omega arith) (λ i b. l i (omega arith)) ∙ step_from j (omega arith)
      ∙ ap (λ b. cond b (first_from (groups s - suc j) (suc j) s ms) j) (standing j (l j (omega arith)))

  module _ (j : ℕ) (l : (i : ℕ) → i < j → losses_to s ms i (members s i) ≤ s.tolerance) where
    pub found : (i x : ℕ) → j < groups s → i ≤ members s j → x ≡ losses_to s ms j i → s.tolerance < x → j ≡ first_broken s ms
    found i x h b e t =
        sym (search_from j (omega arith) l ∙ step_from j h ∙ ap (λ b. cond b (first_from (groups s - suc j) (suc j) s ms) j) (broken j i b (omega arith)))

    pub found_none : j ≡ groups s → 255 ≡ first_broken s ms
    unfolding first_from
    found_none e = let z : groups s - j ≡ 0 = omega arith in sym (search_from j (omega arith) l ∙ ap (λ n. first_from n j s ms) z)
