-- Which groups are mended, by the symbols of the lost slot's mates. Assumes nothing.
--   held_lone       of the only lost member some codeword has the mates' symbols, or none has
--   repairs_part    the group that is mended, in the span and in the word
--   mends_part      its lost slot
use mathlib.Core.Path.{◌≡◌, refl, sym, ap, ap₂, ◌∙◌}
use mathlib.Core.Bool.{Bool, true, false, cond, not, ◌&&◌, ◌||◌}
use mathlib.Core.List.{List}
use Prim.Native.Nat.{ℕ, zero, suc, ◌+◌, ◌*◌, ◌≤◌, ◌<◌}
use native.Mathlib.Decide.{ℕ_discrete}
use native.Mathlib.Omega.{arith}
use lib.Dec.{T, eqb}
use lib.ListN.{length}
use borrow.Author.Tests.{eqb-true}
use Rattle.algebra.specs.Sequence.{count, every}
use Rattle.algebra.proofs.Booleans.{so, yes_true, or_right}
use Rattle.algebra.proofs.Every.{every_intro, every_not}
use Rattle.algebra.proofs.Counting.{count_one}
use Rattle.code.specs.declared.Shape.{Shape}
use Rattle.code.specs.Shape.{groups, step, members, slot_at, others, mates}
use Rattle.code.specs.Decoding.{lost}
use Rattle.code.specs.Erasure.{group_losses}
use Rattle.code.specs.Repair.{symbols_of}
use Rattle.code.specs.Held.{held}
use Rattle.code.specs.Pass.{kept_places, mendable, repairs, mends}
use Rattle.code.specs.Laws.{Mending}
use Rattle.code.proofs.Places.{n_room}
use Rattle.code.proofs.Mates.{member_slot}
use Rattle.code.proofs.Lone.{mendable_one, kept_lone}
use Rattle.code.proofs.Held.{held_others}
use Rattle.layout.proofs.Spans.{OfSpan}
use Rattle.spans.specs.Span.{lone, part_mates}
use Rattle.mending.specs.Step.{part_held, part_mended}
use Rattle.spans.proofs.Members.{member_group, symbols_part, lone_part}

some_counted : (t : ℕ → Bool) (n : ℕ) → 1 ≤ count t n → (i : ℕ) × (i < n) × (t i ≡ true)
unfolding count
some_counted t zero h = absurd (omega arith)
some_counted t (suc n) h = go (t n) refl (some_counted t n) h
  where
    go : (b : Bool) → t n ≡ b → (1 ≤ count t n → (i : ℕ) × (i < n) × (t i ≡ true)) → 1 ≤ cond {A = ℕ} b 1 0 + count t n
        → (i : ℕ) × (i < suc n) × (t i ≡ true)
    go true e rest h = (n, omega arith, e)
    go false e rest h = let w = rest (omega arith) in (w.0, omega (arith, w.1), w.2)

-- member i is the only one that is lost
module _ (s : Shape) (j i : ℕ) (ws ms : List ℕ) (e : lone s j ms ≡ true) (h : i < members s j) (t : lost ms (i * step s) ≡ true) where
  test : ℕ → Bool
  test k = not (lost ms (k * step s)) || held s (mates s (slot_at s j k)) (part_mates s j k ws)

  pub held_lone : part_held s j ws ms ≡ held s (mates s (slot_at s j i)) (part_mates s j i ws)
  unfolding part_held test lone
  held_lone = go (held s (mates s (slot_at s j i)) (part_mates s j i ws)) refl
    where
      others_kept : (k : ℕ) → k < members s j → Dec (k ≡ i) → held s (mates s (slot_at s j i)) (part_mates s j i ws) ≡ true → T (test k)
      others_kept k l (yes d) y =
          or_right (not (lost ms (k * step s))) (held s (mates s (slot_at s j k)) (part_mates s j k ws))
          (so (ap (λ k. held s (mates s (slot_at s j k)) (part_mates s j k ws)) d ∙ y))
      others_kept k l (no d) y =
          let m : ℕ → Bool = λ i. lost ms (i * step s) in rw (count_one m (members s j) i k (eqb-true (count m (members s j)) 1 e) h l t d) tt

      go : (b : Bool) → held s (mates s (slot_at s j i)) (part_mates s j i ws) ≡ b → every test (members s j) ≡ b
      go true y = yes_true (every test (members s j)) (every_intro test (members s j) (λ k l. others_kept k l (ℕ_discrete k i) y))
      go false y = every_not test (members s j) i h (ap₂ (λ a b. not a || b) t y)

-- there is a symbol and a mark for every slot
module _ (s : Shape) (M : Mending s) (j : ℕ) (b : j < groups s) (ws zs : List ℕ) (l : length ws ≡ s.n) (R : OfSpan s j ws zs)
    (ms ns : List ℕ) (o : length ms ≡ s.n) (Q : OfSpan s j ms ns) where
  same_lost : (i : ℕ) → i < members s j → lost ns (i * step s) ≡ lost ms (slot_at s j i)
  unfolding lost
  same_lost i h = ap (λ x. eqb x 1) (Q i h)

  kept : Bool
  kept = held s (kept_places s ms j) (symbols_of ws (kept_places s ms j))

  -- of a group with one loss
  one_held : lone s j ns ≡ true → part_held s j zs ns ≡ kept
  unfolding kept lone
  one_held e =
      let lone_number : ℕ = count (λ i. lost ns (i * step s)) (members s j) in
      let n : lone_number ≡ 1 = eqb-true lone_number 1 e in
      let w = some_counted (λ i. lost ns (i * step s)) (members s j) (omega arith) in
      let i = w.0 in
      let p : ℕ = slot_at s j i in
      let P = M.placed in
      let inside = member_slot s P j i w.1 in
      let g = member_group s P j i b w.1 in
      let one = eqb-true (group_losses s j ms) 1 (sym (mendable_one s M.one ms j) ∙ sym (lone_part s M j ms ns o Q) ∙ e) in
      let k : kept_places s ms j ≡ others s p
      = ap (kept_places s ms) (sym g)
      ∙ kept_lone s P ms p (omega (arith, n_room s P)) (sym (same_lost i w.1) ∙ w.2) (ap (λ j. group_losses s j ms) g ∙ one) in
      held_lone s j i zs ns e w.1 w.2 ∙ ap (held s (mates s p)) (symbols_part s P j i b w.1 ws zs R)
      ∙ sym (held_others s M p inside ws l) ∙ ap (λ os. held s os (symbols_of ws os)) (sym k)

  pub repairs_part : part_mended s j zs ns ≡ repairs s ws ms j
  unfolding part_mended repairs kept
  repairs_part = ap (λ c. c && part_held s j zs ns) (lone_part s M j ms ns o Q) ∙ go (mendable s ms j) refl
    where
      go : (c : Bool) → mendable s ms j ≡ c → c && part_held s j zs ns ≡ c && kept
      go true e = one_held (lone_part s M j ms ns o Q ∙ e)
      go false e = refl

  pub mends_part : (i : ℕ) → i < members s j → lost ns (i * step s) && part_mended s j zs ns ≡ mends s ws ms (slot_at s j i)
  unfolding mends
  mends_part i h = ap₂ ◌&&◌ (same_lost i h) (repairs_part ∙ ap (repairs s ws ms) (sym (member_group s M.placed j i b h)))
