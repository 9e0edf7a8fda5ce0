-- Marks with one slot more lost. Assumes nothing.
--   again            a slot that is lost already changes nothing
--   marked_here, marked_there, still_lost    which slots are lost
--   size_marked, marks_marked    they are as many, and marks
--   back             the marks with what stood there put back
use mathlib.Core.Path.{◌≡◌, sym, ap, ◌∙◌}
use mathlib.Core.Logic.{◌≢◌}
use mathlib.Core.Bool.{true}
use mathlib.Core.List.{List}
use Prim.Native.Nat.{ℕ, ◌<◌}
use native.Mathlib.Decide.{ℕ_discrete}
use native.Mathlib.Omega.{arith}
use borrow.Author.Tests.{eq-eqb}
use lib.Dec.{T, eqb, eqb→eq}
use lib.ListN.{length, set, length-set}
use lib.Seq.{set-set, set-get_or, get_or-set_same, get_or-set_other}
use Rattle.algebra.specs.Sequence.{at, all_below}
use Rattle.algebra.proofs.Booleans.{so}
use Rattle.algebra.proofs.Below.{all_below_at, all_below_intro}
use Rattle.code.specs.Decoding.{lost}
use Rattle.previewing.specs.Preview.{marked}

module _ (ms : List ℕ) (p : ℕ) where
  pub again : lost ms p ≡ true → marked ms p ≡ ms
  unfolding lost marked
  again e = ap (set ms p) (sym (eqb→eq (at ms p) 1 (so e))) ∙ set-get_or ms p 0

  pub marked_here : p < length ms → lost (marked ms p) p ≡ true
  unfolding lost marked
  marked_here h = eq-eqb (at (set ms p 1) p) 1 (get_or-set_same ms p 1 0 h)

  pub marked_there : (o : ℕ) → o ≢ p → lost (marked ms p) o ≡ lost ms o
  unfolding lost marked
  marked_there o n = ap (λ x. eqb x 1) (get_or-set_other ms p o 1 0 n)

  pub still_lost : (o : ℕ) → lost ms o ≡ true → lost (marked ms p) o ≡ true
  still_lost o e = go (ℕ_discrete o p)
    where
      go : Dec (o ≡ p) → lost (marked ms p) o ≡ true
      go (yes w) = ap (λ l. lost l o) (again (ap (lost ms) (sym w) ∙ e)) ∙ e
      go (no n) = marked_there o n ∙ e

  pub size_marked : length (marked ms p) ≡ length ms
  unfolding marked
  size_marked = length-set ms p 1

  pub marks_marked : T (all_below 2 ms) → T (all_below 2 (marked ms p))
  unfolding marked
  marks_marked h = all_below_intro 2 (set ms p 1) (λ i l. go i (rw (length-set ms p 1) at l) (ℕ_discrete i p))
    where
      go : (i : ℕ) → i < length ms → Dec (i ≡ p) → at (set ms p 1) i < 2
      go i l (yes e) = omega (arith, ap (at (set ms p 1)) e, get_or-set_same ms p 1 0 (omega arith))
      go i l (no n) = omega (arith, get_or-set_other ms p i 1 0 n, all_below_at 2 ms h i l)

  pub back : set (marked ms p) p (at ms p) ≡ ms
  unfolding marked
  back = set-set ms p 1 (at ms p) ∙ set-get_or ms p 0
