-- A group's span after its repair. Assumes nothing.
--   same_part, mended_part    what the repair does to it: nothing, or one entry
--   mended_symbol             and that entry
--   lone_count                the losses of its members
--   mates_told                whether some codeword has the mates' symbols, asked of their array
use mathlib.Core.Path.{◌≡◌, refl, sym, ap, ap₂, ◌∙◌}
use mathlib.Core.Bool.{Bool, true, false, cond}
use mathlib.Core.List.{List}
use Prim.Native.Nat.{ℕ, ◌+◌, ◌*◌, ◌-◌, ◌<◌}
use native.Mathlib.Decide.{ℕ_discrete}
use native.Mathlib.Omega.{arith}
use lib.ListN.{length, take, set, length-set}
use lib.Seq.{get_or-set_same, get_or-set_other}
use borrow.Author.Tests.{eqb-true}
use Rattle.algebra.specs.Sequence.{at, count}
use Rattle.algebra.proofs.Booleans.{and_no_right}
use Rattle.algebra.proofs.Counting.{count_same, count_one}
use Rattle.algebra.proofs.Tabulate.{at_tabulate}
use Rattle.field.specs.Polynomial.{dotted}
use Rattle.code.specs.declared.Shape.{Shape}
use Rattle.code.specs.Shape.{groups, step, members, slot_at, mates}
use Rattle.code.specs.Decoding.{lost}
use Rattle.code.specs.Repair.{weights, repaired, restored}
use Rattle.code.specs.Held.{held}
use Rattle.code.specs.Laws.{Placed, Mending}
use Rattle.code.proofs.Mates.{member_slot, members_most}
use Rattle.code.proofs.Held.{held_cong}
use Rattle.layout.proofs.Spans.{member_apart}
use Rattle.weights.specs.Weights.{sixteen}
use Rattle.weights.proofs.Sixteen.{take_sixteen}
use Rattle.weights.proofs.Weighing.{take_weights}
use Rattle.spans.specs.Span.{lone, part_mates}
use Rattle.mending.specs.Step.{MembersSet, instead}
use Rattle.spans.proofs.Members.{mates_few, length_mates_part}

module _ (s : Shape) (j : ℕ) (m : Bool) (ms : List ℕ) (g : ℕ → ℕ) (xs : List ℕ) where
  pub same_part : m ≡ false → MembersSet s j (instead s m ms g xs) xs xs
  same_part e =
      record {
        same = refl;
        own = λ i l. sym (ap (λ b. cond b (g i) (at xs (i * step s))) (and_no_right (lost ms (i * step s)) m e));
        other = λ p h. refl;
      }

  module _ (P : Placed s) (i v : ℕ) (l : i < members s j) (t : lost ms (i * step s) ≡ true) (e : lone s j ms ≡ true) (y : m ≡ true) (d : v ≡ g i) (b : i * step s < length xs) where
    own_entry : (k : ℕ) → k < members s j → Dec (k ≡ i) → at (set xs (i * step s) v) (k * step s) ≡ instead s m ms g xs k
    unfolding lone
    own_entry k h (yes p) = rw (p, t, y) (get_or-set_same xs (i * step s) v 0 b ∙ d)
    own_entry k h (no p) =
        let u : ℕ → Bool = λ i. lost ms (i * step s) in
        rw (count_one u (members s j) i k (eqb-true (count u (members s j)) 1 e) l h t p)
        (get_or-set_other xs (i * step s) (k * step s) v 0 (λ z. p (member_apart s P k i z)))

    pub mended_part : MembersSet s j (instead s m ms g xs) xs (set xs (i * step s) v)
    mended_part =
        record {
          same = length-set xs (i * step s) v;
          own = λ k h. own_entry k h (ℕ_discrete k i);
          other = λ p h. get_or-set_other xs (i * step s) p v 0 (h i l);
        }

-- the losses counted from the span's start, by numbers that are the step and the members
pub lone_count : (s : Shape) (j : ℕ) (ms : List ℕ) (t z n : ℕ) → t ≡ step s → z ≡ members s j → n ≡ count (λ i. lost ms (0 + i * t)) z
    → n ≡ count (λ i. lost ms (i * step s)) (members s j)
lone_count s j ms t z n e d h =
    h
    ∙ count_same (λ i. lost ms (0 + i * t)) (λ i. lost ms (i * step s)) z
    (λ i l. let m : i * t ≡ i * step s = ap (λ t. i * t) e in ap (lost ms) (omega arith))
    ∙ ap (count (λ i. lost ms (i * step s))) d

-- the sum over the arrays of weights and mates' symbols, by numbers that are the slot and one less than the members
pub mended_symbol : (s : Shape) → Mending s → (j i : ℕ) → j < groups s → i < members s j → (p k : ℕ) → p ≡ slot_at s j i → k ≡ members s j - 1
    → (us vs ws : List ℕ) → us ≡ sixteen (weights s p) → vs ≡ sixteen (part_mates s j i ws)
    → dotted s.field (take k us) (take k vs) ≡ repaired s (slot_at s j i) (part_mates s j i ws)
unfolding repaired restored weights
mended_symbol s M j i b h p k e d us vs ws u v =
    let P = M.placed in
    let o = slot_at s j i in
    let n = d ∙ mates_few s P j i b h in
    ap₂ (dotted s.field) (ap (λ n. take n us) n ∙ take_weights s M o (member_slot s P j i h) us (u ∙ ap (λ p. sixteen (weights s p)) e))
    (ap (take k) v ∙ take_sixteen (part_mates s j i ws) k (length_mates_part s j i ws ∙ sym d) (omega (arith, members_most s P j, P.size_most)))

pub mates_told : (s : Shape) → Mending s → (j i : ℕ) → j < groups s → i < members s j → (p : ℕ) → p ≡ slot_at s j i → (vs ws : List ℕ)
    → vs ≡ sixteen (part_mates s j i ws) → held s (mates s p) vs ≡ held s (mates s (slot_at s j i)) (part_mates s j i ws)
unfolding sixteen
mates_told s M j i b h p e vs ws v =
    let P = M.placed in
    let o = slot_at s j i in
    ap₂ (λ p vs. held s (mates s p) vs) e v
    ∙ held_cong s (mates s o) (sixteen (part_mates s j i ws)) (part_mates s j i ws)
    (λ k l. at_tabulate (at (part_mates s j i ws)) 0 16 k (omega (arith, mates_few s P j i b h, members_most s P j, P.size_most)))
