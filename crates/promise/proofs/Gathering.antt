-- The mates' symbols, gathered from a group's span of a word. Assumes nothing.
--   gathered      they are what the word holds at the mates
--   taken         the first of sixteen, as many as there are mates, are they
use mathlib.Core.Path.{◌≡◌, sym, ap, ap₂, ◌∙◌}
use mathlib.Core.List.{List}
use Prim.Native.Nat.{ℕ, ◌≤◌, ◌<◌}
use native.Mathlib.Omega.{arith}
use lib.ListN.{take, drop}
use Rattle.code.specs.declared.Shape.{Shape}
use Rattle.code.specs.Shape.{groups, group, member, first, slot_at, mates, mates_number}
use Rattle.code.specs.Repair.{symbols_of}
use Rattle.code.specs.Laws.{Placed}
use Rattle.code.proofs.Places.{n_room, group_below, slot_group_member}
use Rattle.code.proofs.Mates.{member_own, mates_number_is, length_symbols}
use Rattle.layout.specs.Step.{span}
use Rattle.layout.proofs.Spans.{lent_span}
use Rattle.weights.specs.Weights.{sixteen}
use Rattle.weights.proofs.Sixteen.{take_sixteen}
use Rattle.spans.specs.Span.{part_mates}
use Rattle.spans.proofs.Members.{symbols_part}

module _ (s : Shape) (p : ℕ) (h : p < s.n) (ws : List ℕ) where
  pub gathered : Placed s → (m k j i : ℕ) → first s j ≡ m → span s j ≡ k → j ≡ group s p → i ≡ member s p
      → part_mates s j i (take k (drop m ws)) ≡ symbols_of ws (mates s p)
  gathered P m k j i e d g o =
      let b : j < groups s = rw g (group_below s P p (omega (arith, n_room s P))) in
      let part : List ℕ = take k (drop m ws) in
      symbols_part s P j i b (rw (g, o) (member_own s P p h)) ws part (lent_span s P j m k b e d ws)
      ∙ ap (λ o. symbols_of ws (mates s o)) (ap₂ (slot_at s) g o ∙ slot_group_member s P p)

  pub taken : (n : ℕ) (xs : List ℕ) → n ≡ mates_number s p → n ≤ 16 → xs ≡ sixteen (symbols_of ws (mates s p)) → take n xs ≡ symbols_of ws (mates s p)
  taken n xs d b e =
      ap (take n) e ∙ take_sixteen (symbols_of ws (mates s p)) n (length_symbols ws (mates s p) ∙ sym (d ∙ mates_number_is s p h)) b
