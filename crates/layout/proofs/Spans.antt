-- The stretch of slots from a group's first member to its last. Assumes nothing.
--   member_apart         different members stand in different places
--   member_in_span       every member stands in it
--   span_inside, span_byte   it lies within the word, and is at most 255
--   OfSpan s j ws xs    == xs has the word's entries at the members of group j
--   span_within, slot_in_span, member_inside, length_lent, lent_at, lent_span    the span of a group, lent out of a word
use mathlib.Core.Path.{◌≡◌, sym, ap, ◌∙◌}
use mathlib.Core.List.{List}
use Prim.Native.Nat.{ℕ, ◌+◌, ◌*◌, ◌-◌, ◌≤◌, ◌<◌}
use native.Mathlib.Nat.{mul-le-mul_right}
use native.Mathlib.Omega.{arith}
use lib.ListN.{length, take, drop, length-drop}
use lib.Seq.{length-take-le, get_or-take, get_or-drop}
use Rattle.algebra.specs.Sequence.{at}
use Rattle.code.specs.declared.Shape.{Shape}
use Rattle.code.specs.Shape.{groups, first, step, slot_at, members}
use Rattle.code.specs.Laws.{Placed}
use Rattle.code.proofs.Places.{slot_at_injective}
use Rattle.code.proofs.Bounds.{n_most}
use Rattle.code.proofs.Mates.{members_least, member_slot}
use Rattle.layout.specs.Step.{span}

module _ (s : Shape) (P : Placed s) where
  pub member_apart : (i o : ℕ) → i * step s ≡ o * step s → i ≡ o
  unfolding slot_at
  member_apart i o e = slot_at_injective s P 0 i o (ap (λ n. first s 0 + n) e)

  pub member_in_span : (j i : ℕ) → i < members s j → i * step s < span s j
  unfolding span
  member_in_span j i h =
      let l : i ≤ members s j - 1 = omega arith in
      let m : i * step s ≤ (members s j - 1) * step s = mul-le-mul_right (step s) l in
      omega arith

  pub span_inside : (j : ℕ) → j < groups s → first s j + span s j ≤ s.n
  unfolding span slot_at
  span_inside j h =
      let l : members s j - 1 < members s j = omega (arith, members_least s P j h) in
      let m : first s j + (members s j - 1) * step s < s.n = member_slot s P j (members s j - 1) l in
      omega arith

  pub span_byte : (j : ℕ) → j < groups s → span s j ≤ 255
  span_byte j h = omega (arith, span_inside j h, n_most s P)

-- xs has the word's entries at the members of group j
abbrev pub OfSpan : Shape → (group : ℕ) → (word part : List ℕ) → Type 0
OfSpan s j ws xs = (i : ℕ) → i < members s j → at xs (i * step s) ≡ at ws (slot_at s j i)

-- the span of group j is the k entries from m on
module _ (s : Shape) (P : Placed s) (j m k : ℕ) (b : j < groups s) (e : first s j ≡ m) (d : span s j ≡ k) where
  pub span_within : m + k ≤ s.n
  span_within = omega (arith, span_inside s P j b)

  pub slot_in_span : (i : ℕ) → slot_at s j i ≡ m + i * step s
  unfolding slot_at
  slot_in_span i = omega (arith, e)

  pub member_inside : (i : ℕ) → i < members s j → i * step s < k
  member_inside i h = omega (arith, member_in_span s P j i h, d)

  module _ (z : List ℕ) where
    pub length_lent : length z ≡ s.n → length (take k (drop m z)) ≡ span s j
    length_lent l = length-take-le k (drop m z) (omega (arith, span_within, length-drop m z)) ∙ sym d

    pub lent_at : (i : ℕ) → i < k → at (take k (drop m z)) i ≡ at z (m + i)
    lent_at i h = get_or-take k (drop m z) i 0 h ∙ get_or-drop m z i 0

    pub lent_span : OfSpan s j z (take k (drop m z))
    lent_span i h = lent_at (i * step s) (member_inside i h) ∙ ap (at z) (sym (slot_in_span i))
