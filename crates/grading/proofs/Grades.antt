-- The grade by its tests. Assumes nothing.
--   none_lost                  no group is broken where nothing is lost
--   graded_by                  what was counted and graded, together
--   counted_is, grade_past     where the number lost and the first broken group tell it, and where they do not
use mathlib.Core.Path.{◌≡◌, refl, sym, ap, ◌∙◌}
use mathlib.Core.Logic.{◌≢◌}
use mathlib.Core.Bool.{Bool, true, false, cond, not}
use mathlib.Core.List.{List}
use Prim.Native.Nat.{ℕ, zero, suc, ◌+◌, ◌≤◌, ◌<◌}
use native.Mathlib.Decide.{ℕ_discrete, dec_lt}
use native.Mathlib.Omega.{arith}
use lib.Dec.{leb, eqb, eqb→eq}
use lib.ListN.{length}
use borrow.Author.Tests.{eq-eqb, ne_eqb, le-leb}
use Rattle.algebra.specs.Sequence.{at, every}
use Rattle.algebra.proofs.At.{at_past}
use Rattle.algebra.proofs.Booleans.{so, yes_true, no_false}
use Rattle.algebra.proofs.Counting.{count_none, count_some}
use Rattle.algebra.proofs.Every.{every_at, every_intro}
use Rattle.code.specs.declared.Shape.{Shape}
use Rattle.code.specs.Shape.{size, groups, slot_at}
use Rattle.code.specs.Codeword.{guarantee}
use Rattle.code.specs.Decoding.{lost, undecided}
use Rattle.code.specs.Erasure.{lost_number, group_losses, stands, first_from, first_broken, grade}
use Rattle.code.specs.Laws.{Placed}
use Rattle.code.proofs.Bounds.{groups_most}
use Rattle.grading.specs.Step.{counted, graded}

-- no broken group at all
first_none : (s : Shape) (ms : List ℕ) (l j : ℕ) → ((i : ℕ) → i < j + l → stands s ms i ≡ true) → first_from l j s ms ≡ 255
unfolding first_from
first_none s ms zero j h = refl
first_none s ms (suc l) j h =
    ap (λ b. cond b (first_from l (suc j) s ms) j) (h j (omega arith)) ∙ first_none s ms l (suc j) (λ i b. h i (omega arith))

first_all : (s : Shape) (ms : List ℕ) (l j : ℕ) → j + l ≤ 255 → first_from l j s ms ≡ 255 → (i : ℕ) → j ≤ i → i < j + l → stands s ms i ≡ true
unfolding first_from
first_all s ms zero j b e i h g = absurd (omega arith)
first_all s ms (suc l) j b e i h g = go (stands s ms j) refl (first_all s ms l (suc j) (omega arith)) (ℕ_discrete i j)
  where
    go : (t : Bool) → stands s ms j ≡ t → (first_from l (suc j) s ms ≡ 255 → (i : ℕ) → suc j ≤ i → i < suc j + l → stands s ms i ≡ true)
        → Dec (i ≡ j) → stands s ms i ≡ true
    go false p ih d = let z : j ≡ 255 = sym (ap (λ t. cond t (first_from l (suc j) s ms) j) p) ∙ e in absurd (omega arith)
    go true p ih (yes w) = rw w p
    go true p ih (no w) = ih (sym (ap (λ t. cond t (first_from l (suc j) s ms) j) p) ∙ e) i (omega arith) (omega arith)

-- nothing is lost
module _ (s : Shape) (ms : List ℕ) (long : length ms ≡ s.n) (z : lost_number s ms ≡ 0) where
  all_kept : (p : ℕ) → lost ms p ≡ false
  unfolding lost lost_number
  all_kept p = go (dec_lt p s.n) (eqb (at ms p) 1) refl
    where
      go : Dec (p < s.n) → (b : Bool) → eqb (at ms p) 1 ≡ b → b ≡ false
      go (yes h) true e = absurd (omega (arith, z, count_some (lost ms) s.n p h e))
      go (no h) true e = absurd (omega (arith, at_past ms p (omega arith), eqb→eq (at ms p) 1 (so e)))
      go d false e = refl

  pub none_lost : first_broken s ms ≡ 255
  unfolding first_broken stands group_losses
  none_lost = first_none s ms (groups s) 0 (λ j h. le-leb _ s.tolerance (omega (arith, count_none (λ i. lost ms (slot_at s j i)) (size s) (λ i l. all_kept (slot_at s j i)))))

module _ (s : Shape) (ms : List ℕ) (P : Placed s) where
  -- no group is broken just where every one stands
  none_broken : eqb (first_broken s ms) 255 ≡ every (stands s ms) (groups s)
  unfolding first_broken
  none_broken = go (ℕ_discrete (first_from (groups s) 0 s ms) 255)
    where
      go : Dec (first_from (groups s) 0 s ms ≡ 255) → eqb (first_from (groups s) 0 s ms) 255 ≡ every (stands s ms) (groups s)
      go (yes f) =
          eq-eqb (first_from (groups s) 0 s ms) 255 f
          ∙ sym (yes_true (every (stands s ms) (groups s))
          (every_intro (stands s ms) (groups s) (λ i h. so (first_all s ms (groups s) 0 (omega (arith, groups_most s P)) f i (omega arith) (omega arith)))))
      go (no n) =
          ne_eqb (first_from (groups s) 0 s ms) 255 n
          ∙ sym (no_false (every (stands s ms) (groups s))
          (λ t. n (first_none s ms (groups s) 0 (λ i h. yes_true (stands s ms i) (every_at (stands s ms) (groups s) t i (omega arith))))))

  module _ (l f : ℕ) (e : l ≡ lost_number s ms) (g : f ≡ first_broken s ms) where
    tests : counted s l f ≡ cond (eqb (lost_number s ms) 0) 0 (cond (every (stands s ms) (groups s)) 1 (cond (leb (lost_number s ms) (guarantee s)) 2 3))
    unfolding counted
    tests = rw (e, g, none_broken) refl

    pub counted_is : counted s l f ≢ 3 → counted s l f ≡ grade s ms
    unfolding grade
    counted_is n = tests ∙ go (eqb (lost_number s ms) 0) (every (stands s ms) (groups s)) (leb (lost_number s ms) (guarantee s)) (λ z. n (tests ∙ z))
      where
        go : (a b c : Bool) → cond {A = ℕ} a 0 (cond b 1 (cond c 2 3)) ≢ 3
            → cond {A = ℕ} a 0 (cond b 1 (cond c 2 3)) ≡ cond a 0 (cond b 1 (cond c 2 (cond (undecided s ms) 4 3)))
        go true b c n = refl
        go false true c n = refl
        go false false true n = refl
        go false false false n = absurd (n refl)

    pub grade_past : counted s l f ≡ 3 → (x : Bool) → x ≡ not (undecided s ms) → cond {A = ℕ} x 3 4 ≡ grade s ms
    unfolding grade
    grade_past t x h =
        go (eqb (lost_number s ms) 0) (every (stands s ms) (groups s)) (leb (lost_number s ms) (guarantee s)) (undecided s ms) x (sym tests ∙ t) h
      where
        go : (a b c d x : Bool) → cond {A = ℕ} a 0 (cond b 1 (cond c 2 3)) ≡ 3 → x ≡ not d
            → cond {A = ℕ} x 3 4 ≡ cond a 0 (cond b 1 (cond c 2 (cond d 4 3)))
        go true b c d x t h = absurd (omega arith)
        go false true c d x t h = absurd (omega arith)
        go false false true d x t h = absurd (omega arith)
        go false false false true x t h = ap (λ b. cond {A = ℕ} b 3 4) h
        go false false false false x t h = ap (λ b. cond {A = ℕ} b 3 4) h

pub graded_by : (s : Shape) (ms : List ℕ) (l g f : ℕ) → l ≡ lost_number s ms → g ≡ grade s ms → f ≡ first_broken s ms
    → record { lost = l; grade = g; first = f } ≡ graded s ms
unfolding graded
graded_by s ms l g f a b c = cc (a, b, c)
