-- The copy of a word that local repair works on, with 0 in its lost places. Assumes nothing.
--   KeptSame                two words have the same kept symbols
--   loaded                   a row that was loaded has the word's kept symbols
--   fits_loaded, received_loaded, mended_loaded    what asks for the kept symbols only is the same of both words
use mathlib.Core.Path.{◌≡◌, sym, ap, ◌∙◌}
use mathlib.Core.Logic.{◌≢◌}
use mathlib.Core.Bool.{true, false, not, ◌&&◌, ◌||◌}
use mathlib.Core.List.{List}
use Prim.Native.Nat.{ℕ, ◌<◌}
use native.Mathlib.Decide.{ℕ_discrete, dec_lt}
use native.Mathlib.Omega.{arith}
use lib.Dec.{T, eqb, ltb, lt→ltb}
use lib.ListN.{length}
use borrow.Author.Tests.{eq-eqb}
use Rattle.algebra.specs.Sequence.{at, In}
use Rattle.algebra.specs.Writing.{Written}
use Rattle.algebra.proofs.At.{at_past}
use Rattle.algebra.proofs.Booleans.{so, yes_true, or_left, or_right}
use Rattle.algebra.proofs.Counting.{count_same}
use Rattle.algebra.proofs.Each.{each_intro, each_at, map_each}
use Rattle.algebra.proofs.Every.{every_intro}
use Rattle.field.specs.Field.{q}
use Rattle.code.specs.Shape.{groups}
use Rattle.code.specs.Decoding.{lost, fits}
use Rattle.code.specs.Erasure.{kept_below}
use Rattle.code.specs.Held.{held}
use Rattle.code.specs.Laws.{Placed}
use Rattle.code.specs.Repair.{symbols_of}
use Rattle.code.specs.Pass.{kept_places, mendable, repairs, mended}
use Rattle.code.specs.declared.Shape.{Shape}
use Rattle.interpolation.specs.Interpolated.{masked}
use Rattle.interpolation.proofs.Marks.{masked_kept, kept_not_lost}
use Rattle.code.specs.Step.{Received}
use Rattle.code.proofs.Fits.{kept_symbol, fits_to, fits_of}
use Rattle.code.proofs.Passing.{kept_kept}
use Rattle.code.proofs.Searching.{both_ways}

abbrev pub KeptSame : (n : ℕ) → (word other marks : List ℕ) → Type 0
KeptSame n ws vs ms = (p : ℕ) → p < n → at ms p ≢ 1 → at vs p ≡ at ws p

pub loaded : (n : ℕ) (ws ms a z : List ℕ) → Written (λ p. masked (at ws p) (at ms p)) 0 n a z → KeptSame n ws z ms
loaded n ws ms a z W p h k = W.put p (omega arith) h ∙ masked_kept (at ws p) (at ms p) k

fits_same : (s : Shape) (ws vs ms ys : List ℕ) → KeptSame s.n ws vs ms → fits s ws ms ys ≡ true → fits s vs ms ys ≡ true
fits_same s ws vs ms ys e f =
    let F = fits_to s ws ms ys f in
    fits_of s vs ms ys (record { message = F.message; agree = λ p h k. F.agree p h k ∙ sym (e p h k) })

module _ (s : Shape) (ws vs ms : List ℕ) (e : KeptSame s.n ws vs ms) where
  pub fits_loaded : (ys : List ℕ) → fits s ws ms ys ≡ fits s vs ms ys
  fits_loaded ys =
      both_ways (fits s ws ms ys) (fits s vs ms ys) (λ t. so (fits_same s ws vs ms ys e (yes_true (fits s ws ms ys) t)))
      (λ t. so (fits_same s vs ws ms ys (λ p h k. sym (e p h k)) (yes_true (fits s vs ms ys) t)))

  kept_loaded : kept_below s ws ms ≡ true → kept_below s vs ms ≡ true
  unfolding kept_below lost
  kept_loaded k =
      yes_true (kept_below s vs ms) (every_intro (λ p. lost ms p || ltb (at vs p) (q s.field)) s.n (λ p h. go p h (ℕ_discrete (at ms p) 1)))
    where
      go : (p : ℕ) → p < s.n → Dec (at ms p ≡ 1) → T (eqb (at ms p) 1 || ltb (at vs p) (q s.field))
      go p h (yes d) = or_left (eqb (at ms p) 1) (ltb (at vs p) (q s.field)) (so (eq-eqb (at ms p) 1 d))
      go p h (no n) =
          or_right (eqb (at ms p) 1) (ltb (at vs p) (q s.field)) (lt→ltb (at vs p) (q s.field) (rw (e p h n) (kept_symbol s ws ms k p h n)))

  pub received_loaded : length vs ≡ s.n → Received s ws ms → Received s vs ms
  received_loaded l R = record { word = l; marks = R.marks; kept = kept_loaded R.kept }

  -- the pass mends the same groups of both
  module _ (P : Placed s) (lw : length ws ≡ s.n) (lv : length vs ≡ s.n) where
    symbols_loaded : (j : ℕ) → symbols_of vs (kept_places s ms j) ≡ symbols_of ws (kept_places s ms j)
    unfolding symbols_of lost
    symbols_loaded j =
        map_each (at vs) (at ws) (kept_places s ms j)
        (each_intro (λ o. at vs o ≡ at ws o) (kept_places s ms j) (λ o i. one o i (dec_lt o s.n)))
      where
        one : (o : ℕ) → In o (kept_places s ms j) → Dec (o < s.n) → at vs o ≡ at ws o
        one o i (yes h) = e o h (kept_not_lost ms o (so (ap not (each_at (λ o. lost ms o ≡ false) (kept_kept s P ms j) i))))
        one o i (no h) = at_past vs o (omega arith) ∙ sym (at_past ws o (omega arith))

    pub mended_loaded : mended s vs ms ≡ mended s ws ms
    unfolding mended repairs
    mended_loaded =
        count_same (repairs s vs ms) (repairs s ws ms) (groups s)
        (λ j h. ap (λ ys. mendable s ms j && held s (kept_places s ms j) ys) (symbols_loaded j))
