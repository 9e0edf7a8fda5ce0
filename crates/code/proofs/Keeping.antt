-- The local pass changes nothing of what fits: the same codewords agree before and after. Assumes nothing.
--   group_agrees        a codeword that agrees has the group's kept symbols
--   before_and_after    BeforeAndAfter of specs/Promise.antt
use mathlib.Core.Path.{◌≡◌, refl, sym, ap, ap₂, ◌∙◌}
use mathlib.Core.Bool.{Bool, true, false, cond, ◌&&◌, ◌||◌}
use mathlib.Core.List.{List}
use Prim.Native.Nat.{ℕ, ◌<◌}
use native.Mathlib.Decide.{dec_lt}
use native.Mathlib.Omega.{arith}
use lib.Dec.{T, eqb, eqb_refl}
use lib.ListN.{length}
use Rattle.algebra.specs.Sequence.{at, In}
use Rattle.algebra.proofs.Booleans.{yes_true}
use Rattle.algebra.proofs.Each.{each_intro, each_at, map_each}
use Rattle.algebra.proofs.At.{at_past}
use Rattle.algebra.proofs.Every.{every_intro}
use Rattle.code.specs.declared.Shape.{Shape}
use Rattle.code.specs.Shape.{group}
use Rattle.code.specs.Codeword.{is_message, encoded}
use Rattle.code.specs.Decoding.{lost, agrees, fits}
use Rattle.code.specs.Repair.{symbols_of}
use Rattle.code.specs.Pass.{kept_places, repairs, mends, mend, passed, marks_after}
use Rattle.code.specs.Laws.{Family}
use Rattle.code.specs.Promise.{BeforeAndAfter}
use Rattle.code.proofs.Codewords.{MessageIs, message_is, length_encoded}
use Rattle.code.proofs.Searching.{both_ways}
use Rattle.code.proofs.Decoding.{agrees_at, agrees_kept}
use Rattle.code.proofs.Passing.{at_passed, at_marks, kept_kept, mend_restores, mends_stands}

module _ (s : Shape) (F : Family s) (xs ws ms : List ℕ) (long : length ws ≡ s.n) where
  pub group_agrees : (j : ℕ) → agrees s (encoded s xs) ws ms ≡ true
      → symbols_of ws (kept_places s ms j) ≡ symbols_of (encoded s xs) (kept_places s ms j)
  unfolding symbols_of
  group_agrees j a =
      map_each (at ws) (at (encoded s xs)) (kept_places s ms j)
      (each_intro (λ o. at ws o ≡ at (encoded s xs) o) (kept_places s ms j) (λ o i. one o i (dec_lt o s.n)))
    where
      one : (o : ℕ) → In o (kept_places s ms j) → Dec (o < s.n) → at ws o ≡ at (encoded s xs) o
      one o i (yes h) = sym (agrees_kept s (encoded s xs) ws ms a o h (each_at (λ o. lost ms o ≡ false) (kept_kept s F.placed ms j) i))
      one o i (no h) = at_past ws o (omega arith) ∙ sym (at_past (encoded s xs) o (omega (arith, length_encoded s xs)))

  -- a slot after the pass, by whether it mends it
  module _ (p : ℕ) (h : p < s.n) where
    kept_not_mended : lost ms p ≡ false → mends s ws ms p ≡ false
    unfolding mends
    kept_not_mended k = ap (λ b. b && repairs s ws ms (group s p)) k

    -- what agrees at the slot, before and after
    agrees_here : (word marks : List ℕ) → Bool
    agrees_here w m = lost m p || eqb (at (encoded s xs) p) (at w p)

    after_is : (b : Bool) → mends s ws ms p ≡ b
        → agrees_here (passed s ws ms) (marks_after s ws ms)
        ≡ (eqb (cond b 0 (at ms p)) 1 || eqb (at (encoded s xs) p) (cond b (mend s ws ms p) (at ws p)))
    unfolding agrees_here lost
    after_is b e =
        ap₂ (λ m w. eqb m 1 || eqb (at (encoded s xs) p) w) (at_marks s ws ms p h ∙ ap (λ b. cond b 0 (at ms p)) e)
        (at_passed s ws ms p h ∙ ap (λ b. cond b (mend s ws ms p) (at ws p)) e)

    onward : MessageIs s xs → agrees s (encoded s xs) ws ms ≡ true → T (agrees_here (passed s ws ms) (marks_after s ws ms))
    unfolding agrees_here lost
    onward M a = go (mends s ws ms p) refl
      where
        go : (b : Bool) → mends s ws ms p ≡ b → T (agrees_here (passed s ws ms) (marks_after s ws ms))
        go true e =
            let r = mend_restores s F xs ws ms M p h (mends_stands s ws ms p e) (group_agrees (group s p) a) in
            rw (after_is true e, r) (eqb_refl (at (encoded s xs) p))
        go false e = rw (after_is false e) (agrees_at s (encoded s xs) ws ms a p h)

    backward : T (agrees_here (passed s ws ms) (marks_after s ws ms)) → T (agrees_here ws ms)
    unfolding agrees_here lost
    backward t = go (lost ms p) refl
      where
        go : (b : Bool) → lost ms p ≡ b → T (b || eqb (at (encoded s xs) p) (at ws p))
        go true k = tt
        go false k =
            let v : eqb (at ms p) 1 ≡ false = k in
            let u : T (eqb (at ms p) 1 || eqb (at (encoded s xs) p) (at ws p)) = rw (after_is false (kept_not_mended k)) at t in
            rw v at u

  same_agrees : MessageIs s xs → agrees s (encoded s xs) ws ms ≡ agrees s (encoded s xs) (passed s ws ms) (marks_after s ws ms)
  unfolding agrees agrees_here
  same_agrees M =
      let a = agrees s (encoded s xs) ws ms in
      let b = agrees s (encoded s xs) (passed s ws ms) (marks_after s ws ms) in
      both_ways a b
      (λ t. every_intro (λ p. lost (marks_after s ws ms) p || eqb (at (encoded s xs) p) (at (passed s ws ms) p)) s.n (λ p h. onward p h M (yes_true a t)))
      (λ t. every_intro (λ p. lost ms p || eqb (at (encoded s xs) p) (at ws p)) s.n
      (λ p h. backward p h (agrees_at s (encoded s xs) (passed s ws ms) (marks_after s ws ms) (yes_true b t) p h)))

pub before_and_after : BeforeAndAfter
unfolding BeforeAndAfter fits
before_and_after s ws ms xs F lw = go (is_message s xs) refl
  where
    go : (b : Bool) → is_message s xs ≡ b → (b && agrees s (encoded s xs) ws ms) ≡ (b && agrees s (encoded s xs) (passed s ws ms) (marks_after s ws ms))
    go true m = same_agrees s F xs ws ms lw (message_is s xs m)
    go false m = refl
