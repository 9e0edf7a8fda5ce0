-- Question 6 of the local pass, group by group. Assumes nothing.
--   readable s ws ms p                 == slot p is not read, or its symbol is below q
--   none_read, kept_read               a group that is not mended, and one that is
--   reads_not, reads_all               a group with a symbol that is too large, and none
--   group_reads j, reads_groups        the test of one group, and of all
use mathlib.Core.Path.{◌≡◌, refl, sym, ap, subst, ◌∙◌}
use mathlib.Core.Bool.{Bool, true, false, not, ◌&&◌, ◌||◌}
use mathlib.Core.List.{List}
use Prim.Native.Nat.{ℕ, ◌<◌}
use native.Mathlib.Omega.{arith}
use lib.Dec.{T, ltb}
use Rattle.algebra.specs.Sequence.{at, every}
use Rattle.algebra.proofs.Booleans.{so, yes_true, no_false}
use Rattle.algebra.proofs.Every.{every_at, every_intro, every_same}
use Rattle.field.specs.Field.{q}
use Rattle.code.specs.declared.Shape.{Shape}
use Rattle.code.specs.Shape.{groups, group, member, members, slot_at}
use Rattle.code.specs.Decoding.{lost}
use Rattle.code.specs.Pass.{mendable}
use Rattle.code.specs.Laws.{Mending}
use Rattle.code.proofs.Places.{n_room, group_below, slot_group_member}
use Rattle.code.proofs.Mates.{member_slot, member_own}
use Rattle.spans.proofs.Members.{member_group}
use Rattle.pass.specs.Pass.{reads, reads_below}
use Rattle.pass.specs.Step.{group_reads_below}

abbrev pub readable : Shape → (word marks : List ℕ) → (slot : ℕ) → Bool
readable s ws ms p = not (reads s ms p) || ltb (at ws p) (q s.field)

-- what is read of a group's member, by whether the group is mended
member_reads : (s : Shape) → Mending s → (ms : List ℕ) (j i : ℕ) → j < groups s → i < members s j → (b : Bool) → mendable s ms j ≡ b
    → reads s ms (slot_at s j i) ≡ not (lost ms (slot_at s j i)) && b
unfolding reads
member_reads s M ms j i g h b e = ap (λ b. not (lost ms (slot_at s j i)) && b) (ap (mendable s ms) (member_group s M.placed j i g h) ∙ e)

module _ (s : Shape) (M : Mending s) (ws ms : List ℕ) (j : ℕ) (g : j < groups s) where
  pub none_read : mendable s ms j ≡ false → group_reads_below s j ws ms ≡ true
  unfolding group_reads_below
  none_read e =
      yes_true (every (λ i. readable s ws ms (slot_at s j i)) (members s j))
      (every_intro (λ i. readable s ws ms (slot_at s j i)) (members s j)
      (λ i h. subst (λ (b : Bool). T (not b || ltb (at ws (slot_at s j i)) (q s.field))) (sym (member_reads s M ms j i g h false e ∙ none (lost ms (slot_at s j i)))) tt))
    where
      none : (b : Bool) → not b && false ≡ false
      none true = refl
      none false = refl

  -- of a group that is mended the kept symbols are read
  pub kept_read : mendable s ms j ≡ true
      → group_reads_below s j ws ms ≡ every (λ i. lost ms (slot_at s j i) || ltb (at ws (slot_at s j i)) (q s.field)) (members s j)
  unfolding group_reads_below
  kept_read e =
      every_same (λ i. readable s ws ms (slot_at s j i)) (λ i. lost ms (slot_at s j i) || ltb (at ws (slot_at s j i)) (q s.field)) (members s j)
      (λ i h. ap (λ b. b || ltb (at ws (slot_at s j i)) (q s.field)) (ap not (member_reads s M ms j i g h true e) ∙ kept (lost ms (slot_at s j i))))
    where
      kept : (b : Bool) → not (not b && true) ≡ b
      kept true = refl
      kept false = refl

  pub reads_not : group_reads_below s j ws ms ≡ false → reads_below s ws ms ≡ false
  unfolding group_reads_below reads_below
  reads_not e =
      no_false (every (readable s ws ms) s.n)
      (λ t. subst (λ (b : Bool). T b) e
      (every_intro (λ i. readable s ws ms (slot_at s j i)) (members s j)
      (λ i h. every_at (readable s ws ms) s.n t (slot_at s j i) (member_slot s M.placed j i h))))

-- every slot is one of its group's
pub reads_all : (s : Shape) → Mending s → (ws ms : List ℕ) → ((j : ℕ) → j < groups s → group_reads_below s j ws ms ≡ true) → reads_below s ws ms ≡ true
unfolding group_reads_below reads_below
reads_all s M ws ms all =
    yes_true (every (readable s ws ms) s.n)
    (every_intro (readable s ws ms) s.n
    (λ p h.
    let P = M.placed in
    let l : p < _ = omega (arith, n_room s P) in
    let j : ℕ = group s p in
    let t = every_at (λ i. readable s ws ms (slot_at s j i)) (members s j) (so (all j (group_below s P p l))) (member s p) (member_own s P p h) in
    subst (λ (o : ℕ). T (readable s ws ms o)) (slot_group_member s P p) t))

module _ (s : Shape) (M : Mending s) (ws ms : List ℕ) where
  abbrev pub group_reads : ℕ → Bool
  group_reads j = group_reads_below s j ws ms

  group_kept : T (reads_below s ws ms) → (j : ℕ) → j < groups s → (b : Bool) → group_reads j ≡ b → T (group_reads j)
  group_kept t j h true e = so e
  group_kept t j h false e = absurd (rw (reads_not s M ws ms j h e) at t)

  both_ways : (a b : Bool) → (T a → T b) → (T b → T a) → a ≡ b
  both_ways true true f g = refl
  both_ways true false f g = absurd (f tt)
  both_ways false true f g = absurd (g tt)
  both_ways false false f g = refl

  pub reads_groups : every group_reads (groups s) ≡ reads_below s ws ms
  reads_groups =
      both_ways (every group_reads (groups s)) (reads_below s ws ms)
      (λ t. so (reads_all s M ws ms (λ j h. yes_true (group_reads j) (every_at group_reads (groups s) t j h))))
      (λ t. every_intro group_reads (groups s) (λ j h. group_kept t j h (group_reads j) refl))
