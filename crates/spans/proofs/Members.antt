-- A group's span of the word and of the marks, by members. Assumes nothing.
--   mate_within                     a mate is one of the group's members
--   member_group                    a member's group
--   mates_few                       how many mates a member has
--   length_mates_part               and how many symbols they have in a span
--   symbols_part                    their symbols, in the span and in the word
--   lone_part                       a group's only loss, in the span and in the word
use mathlib.Core.Path.{◌≡◌, sym, ap, ap₂, ◌∙◌}
use mathlib.Core.Bool.{Bool, true, false, cond}
use mathlib.Core.List.{List}
use Prim.Native.Nat.{ℕ, suc, ◌*◌, ◌-◌, ◌<◌}
use native.Mathlib.Omega.{arith}
use lib.Dec.{ltb, eqb}
use lib.ListN.{length}
use lib.Seq.{ext_get_or}
use Rattle.algebra.specs.Sequence.{at}
use Rattle.algebra.proofs.Tabulate.{length_tabulate, at_tabulate}
use Rattle.algebra.proofs.Counting.{count_same}
use Rattle.code.specs.declared.Shape.{Shape}
use Rattle.code.specs.Shape.{size, groups, group, step, members, slot_at, mates}
use Rattle.code.specs.Decoding.{lost}
use Rattle.code.specs.Repair.{symbols_of}
use Rattle.code.specs.Pass.{mendable}
use Rattle.code.specs.Laws.{Placed, Mending}
use Rattle.code.proofs.Places.{group_slot_at, member_slot_at}
use Rattle.code.proofs.Mates.{member_slot, members_most, length_mates, length_symbols, at_symbols}
use Rattle.code.proofs.Losing.{losses_members}
use Rattle.code.proofs.Lone.{mendable_one}
use Rattle.layout.specs.Step.{mate_member}
use Rattle.layout.proofs.Numbers.{mate_is}
use Rattle.layout.proofs.Spans.{OfSpan}
use Rattle.spans.specs.Span.{lone, part_mates}

pub mate_within : (m i k : ℕ) → k < m - 1 → mate_member i k < m
unfolding mate_member
mate_within m i k l = go (ltb k i)
  where
    go : (b : Bool) → cond b k (suc k) < m
    go true = omega arith
    go false = omega arith

pub length_mates_part : (s : Shape) (j i : ℕ) (xs : List ℕ) → length (part_mates s j i xs) ≡ members s j - 1
unfolding part_mates
length_mates_part s j i xs = length_tabulate (λ k. at xs (mate_member i k * step s)) (members s j - 1)

module _ (s : Shape) (P : Placed s) (j i : ℕ) (b : j < groups s) (h : i < members s j) where
  -- member i's slot
  abbrev p : ℕ
  p = slot_at s j i

  inside : p < s.n
  inside = member_slot s P j i h

  small : i < size s
  small = omega (arith, members_most s P j)

  pub member_group : group s (slot_at s j i) ≡ j
  member_group = group_slot_at s P j i b small

  pub mates_few : members s j - 1 ≡ length (mates s (slot_at s j i))
  mates_few = omega (arith, length_mates s P p inside, ap (members s) member_group)

  mate_slot : (k : ℕ) → k < members s j - 1 → at (mates s p) k ≡ slot_at s j (mate_member i k)
  mate_slot k l =
      mate_is s P p inside k (omega (arith, mates_few))
      ∙ ap₂ (λ j i. slot_at s j (mate_member i k)) member_group (member_slot_at s P j i b small)

  pub symbols_part : (ws xs : List ℕ) → OfSpan s j ws xs → part_mates s j i xs ≡ symbols_of ws (mates s (slot_at s j i))
  unfolding part_mates
  symbols_part ws xs Q =
      let f : ℕ → ℕ = λ k. at xs (mate_member i k * step s) in
      let n : ℕ = members s j - 1 in
      ext_get_or 0 (part_mates s j i xs) (symbols_of ws (mates s p))
      (length_mates_part s j i xs ∙ mates_few ∙ sym (length_symbols ws (mates s p)))
      (λ k d. let l : k < n = omega (arith, length_mates_part s j i xs) in
      at_tabulate f 0 n k l ∙ Q (mate_member i k) (mate_within (members s j) i k l) ∙ ap (at ws) (sym (mate_slot k l))
      ∙ sym (at_symbols ws (mates s p) k (omega (arith, mates_few))))

-- there is a mark for every slot
module _ (s : Shape) (M : Mending s) (j : ℕ) (ms ns : List ℕ) (long : length ms ≡ s.n) (Q : OfSpan s j ms ns) where
  pub lone_part : lone s j ns ≡ mendable s ms j
  unfolding lone lost
  lone_part =
      ap (λ n. eqb n 1)
      (count_same (λ i. lost ns (i * step s)) (λ i. lost ms (slot_at s j i)) (members s j) (λ i h. ap (λ x. eqb x 1) (Q i h))
      ∙ sym (losses_members s M.placed ms long j))
      ∙ sym (mendable_one s M.one ms j)
