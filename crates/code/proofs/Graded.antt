-- The grade by its tests, and what it says of every word. Assumes nothing.
--   four_of, of_four    the grade is 4 just where two messages' codewords agree on the kept slots
--   four_is        just where the kept slots leave the message undecided
--   grade_four     GradeFour of specs/Promise.antt
--   grade_tells    GradeTells of specs/Promise.antt
--   grade_most     no grade is above 4
--   first_most     the first broken group has a number of at most 255
use mathlib.Core.Path.{◌≡◌, refl, sym, ap, ◌∙◌}
use mathlib.Core.Logic.{◌≢◌}
use mathlib.Core.Bool.{Bool, true, false, cond}
use mathlib.Core.List.{List, List-discrete}
use Prim.Native.Nat.{ℕ, zero, suc, ◌+◌, ◌≤◌, ◌<◌}
use native.Mathlib.Decide.{ℕ_discrete}
use native.Mathlib.Omega.{arith}
use borrow.Author.Tests.{eq-eqb, ne_eqb}
use lib.Dec.{leb, leb→le, eqb, eqb→eq}
use Rattle.algebra.specs.Sequence.{at, every}
use Rattle.algebra.proofs.Booleans.{so, differ}
use Rattle.code.specs.declared.Shape.{Shape}
use Rattle.code.specs.Shape.{groups}
use Rattle.code.specs.Codeword.{symbol, encoded, guarantee}
use Rattle.code.specs.Decoding.{agrees, fits, undecided}
use Rattle.code.specs.Erasure.{lost_number, stands, first_from, first_broken, grade}
use Rattle.code.specs.Laws.{Placed, Family}
use Rattle.code.specs.Promise.{Ambiguous, GradeFour, GradeTells}
use Rattle.code.proofs.Bounds.{groups_most}
use Rattle.code.proofs.Codewords.{message_is, is_message_of, at_encoded}
use Rattle.code.proofs.Decoding.{fits_agrees, fits_intro}
use Rattle.code.proofs.Fits.{fits_to, fits_of}
use Rattle.code.proofs.Differences.{apart, apart_message, apart_zero, apart_back, apart_kept, apart_none}
use Rattle.code.proofs.Deciding.{Two, own_fits, both_fit, two_fit, shared_all, two_of, undecided_of, within, standing}

module _ (s : Shape) (ms : List ℕ) (F : Family s) where
  -- undecided losses are past the guarantee, and some group does not stand
  pub four_of : Two s ms → grade s ms ≡ 4
  unfolding grade
  four_of W = go (eqb (lost_number s ms) 0) (every (stands s ms) (groups s)) (leb (lost_number s ms) (guarantee s)) refl refl refl
    where
      go : (a b c : Bool) → eqb (lost_number s ms) 0 ≡ a → every (stands s ms) (groups s) ≡ b → leb (lost_number s ms) (guarantee s) ≡ c
          → cond {A = ℕ} a 0 (cond b 1 (cond c 2 (cond (undecided s ms) 4 3))) ≡ 4
      go true b c x y z = absurd (within s F ms W (omega (arith, eqb→eq (lost_number s ms) 0 (so x))))
      go false true c x y z = absurd (standing s F ms W y)
      go false false true x y z = absurd (within s F ms W (leb→le (lost_number s ms) (guarantee s) (so z)))
      go false false false x y z = ap (λ b. cond b 4 3) (undecided_of s F ms W)

  pub of_four : grade s ms ≡ 4 → Two s ms
  unfolding grade
  of_four e =
      two_of s F ms
      (down (eqb (lost_number s ms) 0) (every (stands s ms) (groups s)) (leb (lost_number s ms) (guarantee s)) (undecided s ms) e)
    where
      down : (a b c d : Bool) → cond {A = ℕ} a 0 (cond b 1 (cond c 2 (cond d 4 3))) ≡ 4 → d ≡ true
      down true b c d e = absurd (omega arith)
      down false true c d e = absurd (omega arith)
      down false false true d e = absurd (omega arith)
      down false false false true e = refl
      down false false false false e = absurd (omega arith)

  pub four_is : eqb (grade s ms) 4 ≡ undecided s ms
  four_is = go (undecided s ms) refl
    where
      go : (b : Bool) → undecided s ms ≡ b → eqb (grade s ms) 4 ≡ b
      go true e = eq-eqb (grade s ms) 4 (four_of (two_of s F ms e))
      go false e = ne_eqb (grade s ms) 4 (λ g. differ (sym (undecided_of s F ms (of_four g)) ∙ e))

pub grade_four : GradeFour
unfolding GradeFour
grade_four s ms F = (there, back)
  where
    there : grade s ms ≡ 4 → Ambiguous s ms
    there e =
        let W = of_four s ms F e in
        record {
          one = encoded s W.one;
          other = encoded s W.other;
          one_codeword = record { message = W.one; good = is_message_of s W.one W.one_is; is = refl };
          other_codeword = record { message = W.other; good = is_message_of s W.other W.other_is; is = refl };
          agree = fits_agrees s (encoded s W.other) ms W.one (both_fit s ms W);
          differ = λ d. W.differ (shared_all s F ms W.one W.other W.one_is W.other_is (λ p h. entries W.one W.other d p h));
        }
      where
        entries : (xs ys : List ℕ) → encoded s xs ≡ encoded s ys → (p : ℕ) → p < s.n → symbol s xs p ≡ symbol s ys p
        entries xs ys d p h = sym (at_encoded s xs p h) ∙ ap (λ l. at l p) d ∙ at_encoded s ys p h

    back : Ambiguous s ms → grade s ms ≡ 4
    back A =
        let xs = A.one_codeword.message in
        let ys = A.other_codeword.message in
        let f = fits_intro s A.other ms xs A.one_codeword.good (ap (λ l. agrees s l A.other ms) (sym A.one_codeword.is) ∙ A.agree) in
        let g = ap (λ l. fits s l ms ys) A.other_codeword.is ∙ own_fits s ms ys (message_is s ys A.other_codeword.good) in
        four_of s ms F (two_fit s ms A.other xs ys f g (λ d. A.differ (A.one_codeword.is ∙ ap (encoded s) d ∙ sym A.other_codeword.is)))

pub grade_tells : GradeTells
unfolding GradeTells
grade_tells s ws ms F =
    record {
      more = λ e xs f. another (of_four s ms F e) xs f;
      one = λ n xs ys f g. only n xs ys f g (List-discrete ℕ_discrete xs ys);
    }
  where
    -- the message less the difference of the two
    another : Two s ms → (xs : List ℕ) → fits s ws ms xs ≡ true → (ys : List ℕ) × (fits s ws ms ys ≡ true) × (ys ≢ xs)
    another W xs f =
        let X = fits_to s ws ms xs f in
        let a = W.one in
        let b = W.other in
        let d = apart s F a b W.one_is W.other_is in
        let D = apart_message s F a b W.one_is W.other_is in
        let ys = apart s F xs d X.message D in (
          ys,
          fits_of s ws ms ys
              (record {
                message = apart_message s F xs d X.message D;
                agree = λ p h n.
                    apart_kept s F xs d X.message D p (apart_zero s F a b W.one_is W.other_is p (W.agree p h n)) ∙ X.agree p h n;
              }),
          λ e. W.differ (shared_all s F ms a b W.one_is W.other_is
              (λ p h. apart_back s F a b W.one_is W.other_is p (apart_none s F xs d X.message D p (ap (λ l. symbol s l p) e)))),
        )

    only : grade s ms ≢ 4 → (xs ys : List ℕ) → fits s ws ms xs ≡ true → fits s ws ms ys ≡ true → Dec (xs ≡ ys) → xs ≡ ys
    only n xs ys f g (yes e) = e
    only n xs ys f g (no d) = absurd (n (four_of s ms F (two_fit s ms ws xs ys f g d)))

pub grade_most : (s : Shape) (ms : List ℕ) → grade s ms ≤ 4
unfolding grade
grade_most s ms = go (eqb (lost_number s ms) 0) (every (stands s ms) (groups s)) (leb (lost_number s ms) (guarantee s)) (undecided s ms)
  where
    go : (a b c d : Bool) → cond {A = ℕ} a 0 (cond b 1 (cond c 2 (cond d 4 3))) ≤ 4
    go true b c d = omega arith
    go false true c d = omega arith
    go false false true d = omega arith
    go false false false true = omega arith
    go false false false false = omega arith

first_from_most : (s : Shape) (ms : List ℕ) (l j : ℕ) → j + l ≤ 255 → first_from l j s ms ≤ 255
unfolding first_from
first_from_most s ms zero j h = omega arith
first_from_most s ms (suc l) j h = go (stands s ms j) (first_from_most s ms l (suc j) (omega arith))
  where
    go : (b : Bool) → first_from l (suc j) s ms ≤ 255 → cond b (first_from l (suc j) s ms) j ≤ 255
    go true i = i
    go false i = omega arith

pub first_most : (s : Shape) → Placed s → (ms : List ℕ) → first_broken s ms ≤ 255
unfolding first_broken
first_most s P ms = first_from_most s ms (groups s) 0 (omega (arith, groups_most s P))
