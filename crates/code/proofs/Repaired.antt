-- Losses that groups repair by themselves decide nothing: the local pass, over any word, leaves the rest as undecided as it was. Assumes nothing.
--   two_after, two_before    two messages whose codewords agree on the kept slots, before and after the pass
--   undecided_after          losses are undecided after it just where they were
--   decided_within           and decided where no more are left than are sure
use mathlib.Core.Path.{◌≡◌, refl, sym, ap, ◌∙◌}
use mathlib.Core.Bool.{Bool, true, false, cond}
use mathlib.Core.List.{List}
use Prim.Native.Nat.{ℕ, ◌≤◌, ◌<◌}
use native.Mathlib.Omega.{arith}
use Rattle.algebra.specs.Sequence.{at}
use Rattle.algebra.proofs.Booleans.{yes_true, no_false, so}
use Rattle.code.specs.declared.Shape.{Shape}
use Rattle.code.specs.Codeword.{encoded, guarantee}
use Rattle.code.specs.Decoding.{fits, undecided}
use Rattle.code.specs.Erasure.{lost_number}
use Rattle.code.specs.Pass.{mends, passed, marks_after}
use Rattle.code.specs.Laws.{Family}
use Rattle.code.specs.Promise.{BeforeAndAfter}
use Rattle.code.proofs.Codewords.{MessageIs, length_encoded}
use Rattle.code.proofs.Searching.{both_ways}
use Rattle.code.proofs.Lone.{mends_is}
use Rattle.code.proofs.Passing.{at_marks, mends_own}
use Rattle.code.proofs.Keeping.{before_and_after}
use Rattle.code.proofs.Deciding.{Two, two_also, own_fits, both_fit, two_fit, two_of, undecided_of, within}

module _ (s : Shape) (F : Family s) (ms : List ℕ) where
  -- after the pass over a codeword that has the same kept symbols as another
  two_passed : (W : Two s ms) → Two s (marks_after s (encoded s W.other) ms)
  unfolding BeforeAndAfter
  two_passed W =
      let ws = encoded s W.other in
      let after : (xs : List ℕ) → fits s ws ms xs ≡ true → fits s (passed s ws ms) (marks_after s ws ms) xs ≡ true
      = λ xs f. sym (before_and_after s ws ms xs F (length_encoded s W.other)) ∙ f in
      two_fit s (marks_after s ws ms) (passed s ws ms) W.one W.other (after W.one (both_fit s ms W))
      (after W.other (own_fits s ms W.other W.other_is)) W.differ

  still_lost : (ws : List ℕ) (p : ℕ) → p < s.n → at (marks_after s ws ms) p ≡ 1 → at ms p ≡ 1
  still_lost ws p h e = go (mends s ws ms p) (sym (at_marks s ws ms p h) ∙ e)
    where
      go : (b : Bool) → cond b 0 (at ms p) ≡ 1 → at ms p ≡ 1
      go true z = absurd (omega arith)
      go false z = z

  -- over a codeword the pass mends every slot that it mends over any word
  left_also : (ws xs : List ℕ) → MessageIs s xs → (p : ℕ) → p < s.n → at (marks_after s (encoded s xs) ms) p ≡ 1 → at (marks_after s ws ms) p ≡ 1
  left_also ws xs M p h e = at_marks s ws ms p h ∙ go (mends s ws ms p) refl
    where
      cs : List ℕ
      cs = encoded s xs

      go : (b : Bool) → mends s ws ms p ≡ b → cond b 0 (at ms p) ≡ 1
      go true k =
          let m = mends_is s ws ms p k in
          let own = mends_own s xs cs ms p M m.lost_is m.mendable_is refl in
          let z : at (marks_after s cs ms) p ≡ 0 = at_marks s cs ms p h ∙ ap (λ b. cond b 0 (at ms p)) own in
          absurd (omega arith)
      go false k = still_lost cs p h e

  module _ (ws : List ℕ) where
    pub two_after : Two s ms → Two s (marks_after s ws ms)
    two_after W =
        let xs = W.other in two_also s (marks_after s (encoded s xs) ms) (marks_after s ws ms) (left_also ws xs W.other_is) (two_passed W)

    pub two_before : Two s (marks_after s ws ms) → Two s ms
    two_before W = two_also s (marks_after s ws ms) ms (still_lost ws) W

    pub undecided_after : undecided s (marks_after s ws ms) ≡ undecided s ms
    undecided_after =
        let after = marks_after s ws ms in
        both_ways (undecided s after) (undecided s ms)
        (λ t. so (undecided_of s F ms (two_before (two_of s F after (yes_true (undecided s after) t)))))
        (λ t. so (undecided_of s F after (two_after (two_of s F ms (yes_true (undecided s ms) t)))))

    pub decided_within : lost_number s (marks_after s ws ms) ≤ guarantee s → undecided s ms ≡ false
    decided_within l =
        no_false (undecided s ms) (λ t. within s F (marks_after s ws ms) (two_after (two_of s F ms (yes_true (undecided s ms) t))) l)
