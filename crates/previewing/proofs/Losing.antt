-- What more losses do. Assumes nothing.
--   more_lost       a kept slot is one loss more
--   grade_no_better, first_no_later    where no slot comes back
use mathlib.Core.Path.{◌≡◌, refl, sym}
use mathlib.Core.Bool.{Bool, true, false, cond}
use mathlib.Core.List.{List}
use Prim.Native.Nat.{ℕ, zero, suc, ◌+◌, ◌≤◌, ◌<◌}
use native.Mathlib.Omega.{arith}
use borrow.Author.Tests.{eq-eqb, le-leb}
use lib.Dec.{eqb, leb, eqb→eq, leb→le}
use lib.ListN.{length}
use Rattle.algebra.specs.Sequence.{at, count, every}
use Rattle.algebra.proofs.Booleans.{so, yes_true, differ}
use Rattle.algebra.proofs.Counting.{count_less, count_and}
use Rattle.algebra.proofs.Every.{every_at, every_intro}
use Rattle.code.specs.declared.Shape.{Shape}
use Rattle.code.specs.Shape.{size, groups, slot_at}
use Rattle.code.specs.Codeword.{guarantee}
use Rattle.code.specs.Decoding.{lost, undecided}
use Rattle.code.specs.Erasure.{lost_number, group_losses, stands, first_from, first_broken, grade}
use Rattle.code.specs.Laws.{Family}
use Rattle.code.proofs.Bounds.{groups_most}
use Rattle.code.proofs.Deciding.{two_also, two_of, undecided_of}
use Rattle.previewing.specs.Preview.{marked}
use Rattle.previewing.proofs.Marking.{marked_here, marked_there}

-- os has lost what ms has, and perhaps more
module _ (s : Shape) (ms os : List ℕ) (still : (o : ℕ) → lost ms o ≡ true → lost os o ≡ true) where
  lost_less : lost_number s ms ≤ lost_number s os
  unfolding lost_number
  lost_less = count_less (lost ms) (lost os) s.n (λ i l. still i)

  stood : (j : ℕ) → stands s os j ≡ true → stands s ms j ≡ true
  unfolding stands group_losses
  stood j e =
      let a : ℕ = count (λ i. lost ms (slot_at s j i)) (size s) in
      let b : ℕ = count (λ i. lost os (slot_at s j i)) (size s) in
      let c : a ≤ b = count_less (λ i. lost ms (slot_at s j i)) (λ i. lost os (slot_at s j i)) (size s) (λ i l. still (slot_at s j i)) in
      le-leb a s.tolerance (omega (arith, leb→le b s.tolerance (so e)))

  first_least : (l j : ℕ) → j + l ≤ 255 → j ≤ first_from l j s ms
  unfolding first_from
  first_least zero j h = omega arith
  first_least (suc l) j h = go (stands s ms j) (first_least l (suc j) (omega arith))
    where
      go : (b : Bool) → suc j ≤ first_from l (suc j) s ms → j ≤ cond b (first_from l (suc j) s ms) j
      go true i = omega arith
      go false i = omega arith

  first_from_no_later : (l j : ℕ) → j + l ≤ 255 → first_from l j s os ≤ first_from l j s ms
  unfolding first_from
  first_from_no_later zero j h = omega arith
  first_from_no_later (suc l) j h =
      go (stands s os j) (stands s ms j) (stood j) (first_from_no_later l (suc j) (omega arith)) (first_least l (suc j) (omega arith))
    where
      go : (a b : Bool) → (a ≡ true → b ≡ true) → first_from l (suc j) s os ≤ first_from l (suc j) s ms → suc j ≤ first_from l (suc j) s ms
          → cond a (first_from l (suc j) s os) j ≤ cond b (first_from l (suc j) s ms) j
      go true true f i k = i
      go true false f i k = differ (sym (f refl))
      go false true f i k = omega arith
      go false false f i k = omega arith

  module _ (F : Family s) where
    pub first_no_later : first_broken s os ≤ first_broken s ms
    unfolding first_broken
    first_no_later = first_from_no_later (groups s) 0 (omega (arith, groups_most s F.placed))

    still_undecided : undecided s ms ≡ true → undecided s os ≡ true
    unfolding lost
    still_undecided e =
        undecided_of s F os (two_also s ms os (λ p h i. eqb→eq (at os p) 1 (so (still p (eq-eqb (at ms p) 1 i)))) (two_of s F ms e))

    pub grade_no_better : grade s ms ≤ grade s os
    unfolding grade
    grade_no_better =
        go (eqb (lost_number s ms) 0) (every (stands s ms) (groups s)) (leb (lost_number s ms) (guarantee s)) (undecided s ms)
        (eqb (lost_number s os) 0) (every (stands s os) (groups s)) (leb (lost_number s os) (guarantee s)) (undecided s os)
        (λ e. eq-eqb (lost_number s ms) 0 (omega (arith, lost_less, eqb→eq (lost_number s os) 0 (so e))))
        (λ e. yes_true (every (stands s ms) (groups s)) (every_intro (stands s ms) (groups s) (λ i h. so (stood i (yes_true (stands s os i) (every_at (stands s os) (groups s) (so e) i h))))))
        (λ e. le-leb (lost_number s ms) (guarantee s) (omega (arith, lost_less, leb→le (lost_number s os) (guarantee s) (so e))))
        still_undecided
      where
        go : (a b c d x y z w : Bool) → (x ≡ true → a ≡ true) → (y ≡ true → b ≡ true) → (z ≡ true → c ≡ true) → (d ≡ true → w ≡ true)
            → cond {A = ℕ} a 0 (cond b 1 (cond c 2 (cond d 4 3))) ≤ cond {A = ℕ} x 0 (cond y 1 (cond z 2 (cond w 4 3)))
        go true b c d x y z w f g h k = omega arith
        go false b c d true y z w f g h k = differ (sym (f refl))
        go false true c d false true z w f g h k = omega arith
        go false true c d false false true w f g h k = omega arith
        go false true c d false false false true f g h k = omega arith
        go false true c d false false false false f g h k = omega arith
        go false false c d false true z w f g h k = differ (sym (g refl))
        go false false true d false false true w f g h k = omega arith
        go false false true d false false false true f g h k = omega arith
        go false false true d false false false false f g h k = omega arith
        go false false false d false false true w f g h k = differ (sym (h refl))
        go false false false true false false false true f g h k = omega arith
        go false false false true false false false false f g h k = differ (sym (k refl))
        go false false false false false false false true f g h k = omega arith
        go false false false false false false false false f g h k = omega arith

pub more_lost : (s : Shape) (ms : List ℕ) (p : ℕ) → p < s.n → length ms ≡ s.n → lost ms p ≡ false → lost_number s (marked ms p) ≡ lost_number s ms + 1
unfolding lost_number
more_lost s ms p h l e = count_and (lost ms) (lost (marked ms p)) s.n p h e (marked_here ms p (omega arith)) (marked_there ms p)
