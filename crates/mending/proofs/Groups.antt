-- The local pass, group by group. Assumes nothing.
--   word_step, marks_step, number_step    one group more
use mathlib.Core.Path.{◌≡◌, refl, sym, ap, ap₂, ◌∙◌}
use mathlib.Core.Bool.{Bool, true, false, cond}
use mathlib.Core.List.{List}
use Prim.Native.Nat.{ℕ, ◌+◌, ◌*◌, ◌<◌}
use native.Mathlib.Omega.{arith}
use lib.ListN.{length, take, drop}
use Rattle.algebra.specs.Sequence.{at, count}
use Rattle.algebra.proofs.Counting.{count_yes, count_no}
use Rattle.algebra.proofs.Splicing.{splice}
use Rattle.code.specs.declared.Shape.{Shape}
use Rattle.code.specs.Shape.{groups, first, step, members, slot_at, mates}
use Rattle.code.specs.Repair.{repaired, symbols_of}
use Rattle.code.specs.Pass.{repairs, mends, mend}
use Rattle.code.specs.Laws.{Mending}
use Rattle.code.proofs.Mates.{member_slot}
use Rattle.code.proofs.Passing.{passed_at, mark_at}
use Rattle.code.proofs.Lone.{mends_one, mend_lone}
use Rattle.layout.specs.Step.{span}
use Rattle.layout.proofs.Spans.{OfSpan}
use Rattle.spans.specs.Span.{part_mates}
use Rattle.mending.specs.Step.{part_mended, instead, GroupMended}
use Rattle.spans.proofs.Members.{symbols_part}
use Rattle.mending.proofs.Held.{repairs_part, mends_part}
use Rattle.mending.proofs.Spliced.{Upto, span_left, upto_more}

-- what the pass mends is what repair answers
repaired_at : (s : Shape) → Mending s → (ws ms : List ℕ) → length ws ≡ s.n → (p : ℕ) → p < s.n
    → cond (mends s ws ms p) (repaired s p (symbols_of ws (mates s p))) (at ws p) ≡ passed_at s ws ms p
repaired_at s M ws ms l p h = go (mends s ws ms p) refl
  where
    go : (b : Bool) → mends s ws ms p ≡ b → cond b (repaired s p (symbols_of ws (mates s p))) (at ws p) ≡ cond b (mend s ws ms p) (at ws p)
    go true e = let t = mends_one s M.one ms ws p e in sym (mend_lone s M p h ms t.0 t.1 ws l)
    go false e = refl

-- group j's span of the word and of the marks, as they were before the pass
module _ (s : Shape) (M : Mending s) (j : ℕ) (b : j < groups s) (ws ms zp np : List ℕ) (l : length ws ≡ s.n) (o : length ms ≡ s.n)
    (word_part : OfSpan s j ws zp) (marks_part : OfSpan s j ms np) where
  word_entry : (i : ℕ) → i < members s j → instead s (part_mended s j zp np) np (λ i. repaired s (slot_at s j i) (part_mates s j i zp)) zp i ≡ passed_at s ws ms (slot_at s j i)
  word_entry i h =
      let p : ℕ = slot_at s j i in
      ap₂ (λ t y. cond t y (at zp (i * step s))) (mends_part s M j b ws zp l word_part ms np o marks_part i h) (ap (repaired s p) (symbols_part s M.placed j i b h ws zp word_part))
      ∙ ap (λ y. cond (mends s ws ms p) (repaired s p (symbols_of ws (mates s p))) y) (word_part i h)
      ∙ repaired_at s M ws ms l p (member_slot s M.placed j i h)

  marks_entry : (i : ℕ) → i < members s j → instead s (part_mended s j zp np) np (λ i. 0) np i ≡ mark_at s ws ms (slot_at s j i)
  marks_entry i h = ap₂ (λ t y. cond t 0 y) (mends_part s M j b ws zp l word_part ms np o marks_part i h) (marks_part i h)

  one_more : (x : ℕ) → x ≡ cond (part_mended s j zp np) 1 0 → count (repairs s ws ms) j + x ≡ count (repairs s ws ms) (j + 1)
  one_more x n = go (repairs s ws ms j) refl
    where
      is : (t : Bool) → repairs s ws ms j ≡ t → x ≡ cond t 1 0
      is t y = n ∙ ap (λ b. cond b 1 0) (repairs_part s M j b ws zp l word_part ms np o marks_part ∙ y)

      go : (t : Bool) → repairs s ws ms j ≡ t → count (repairs s ws ms) j + x ≡ count (repairs s ws ms) (j + 1)
      go true y = omega (arith, is true y, count_yes (repairs s ws ms) j y)
      go false y = omega (arith, is false y, count_no (repairs s ws ms) j y)

module _ (s : Shape) (M : Mending s) (j m k : ℕ) (b : j < groups s) (e : first s j ≡ m) (d : span s j ≡ k) (ws ms zs ns : List ℕ) (l : length ws ≡ s.n) (o : length ms ≡ s.n)
    (F : Upto s (passed_at s ws ms) j ws zs) (H : Upto s (mark_at s ws ms) j ms ns) (x : ℕ) (zs' ns' : List ℕ)
    (G : GroupMended s j (take k (drop m zs)) (take k (drop m ns)) x zs' ns') where
  zp : List ℕ
  zp = take k (drop m zs)

  np : List ℕ
  np = take k (drop m ns)

  word_part : OfSpan s j ws zp
  unfolding zp
  word_part = span_left s M.placed j m k b e d ws zs l (passed_at s ws ms) F

  marks_part : OfSpan s j ms np
  unfolding np
  marks_part = span_left s M.placed j m k b e d ms ns o (mark_at s ws ms) H

  pub word_step : Upto s (passed_at s ws ms) (j + 1) ws (splice m k zs zs')
  unfolding zp np
  word_step =
      upto_more s M.placed j m k b e d ws zs l (passed_at s ws ms) F (instead s (part_mended s j zp np) np (λ i. repaired s (slot_at s j i) (part_mates s j i zp)) zp) zs' G.word
      (word_entry s M j b ws ms zp np l o word_part marks_part)

  pub marks_step : Upto s (mark_at s ws ms) (j + 1) ms (splice m k ns ns')
  unfolding zp np
  marks_step =
      upto_more s M.placed j m k b e d ms ns o (mark_at s ws ms) H (instead s (part_mended s j zp np) np (λ i. 0) np) ns' G.marks (marks_entry s M j b ws ms zp np l o word_part marks_part)

  pub number_step : count (repairs s ws ms) j + x ≡ count (repairs s ws ms) (j + 1)
  unfolding zp np
  number_step = one_more s M j b ws ms zp np l o word_part marks_part x G.number
