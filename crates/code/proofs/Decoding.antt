-- What fitting means, and losses within the guarantee leave one message only. Assumes nothing.
--   fits_message, fits_agrees, fits_intro, agrees_at, agrees_kept, counts
--   decodes_back    of specs/Promise.antt
use mathlib.Core.Path.{◌≡◌, sym, ap₂, ◌∙◌}
use mathlib.Core.Bool.{Bool, true, false, ◌&&◌, ◌||◌}
use mathlib.Core.List.{List}
use Prim.Native.Nat.{ℕ, ◌+◌, ◌-◌, ◌≤◌, ◌<◌}
use native.Mathlib.Omega.{arith}
use lib.Dec.{T, eqb, eqb→eq}
use Rattle.algebra.specs.Sequence.{at}
use Rattle.algebra.proofs.Booleans.{so, yes_true, and_left, and_right}
use Rattle.algebra.proofs.Equality.{Same, other, same?}
use Rattle.algebra.proofs.Every.{every_at}
use Rattle.algebra.proofs.Counting.{count_split}
use Rattle.code.specs.declared.Shape.{Shape}
use Rattle.code.specs.Shape.{room, missing}
use Rattle.code.specs.Basis.{degree, most_shared}
use Rattle.code.specs.Codeword.{is_message, encoded, shared, guarantee}
use Rattle.code.specs.Decoding.{lost, agrees, fits}
use Rattle.code.specs.Erasure.{lost_number}
use Rattle.code.specs.Promise.{DecodesBack}
use Rattle.code.proofs.Places.{n_room}
use Rattle.code.proofs.Codewords.{message_is}
use Rattle.code.proofs.Distance.{same_message}

pub fits_message : (s : Shape) (ws ms xs : List ℕ) → fits s ws ms xs ≡ true → is_message s xs ≡ true
unfolding fits
fits_message s ws ms xs e = yes_true (is_message s xs) (and_left (is_message s xs) (agrees s (encoded s xs) ws ms) (so e))

pub fits_agrees : (s : Shape) (ws ms xs : List ℕ) → fits s ws ms xs ≡ true → agrees s (encoded s xs) ws ms ≡ true
unfolding fits
fits_agrees s ws ms xs e =
    yes_true (agrees s (encoded s xs) ws ms) (and_right (is_message s xs) (agrees s (encoded s xs) ws ms) (so e))

pub fits_intro : (s : Shape) (ws ms xs : List ℕ) → is_message s xs ≡ true → agrees s (encoded s xs) ws ms ≡ true → fits s ws ms xs ≡ true
unfolding fits
fits_intro s ws ms xs m a = ap₂ ◌&&◌ m a

-- at a kept slot
pub agrees_at : (s : Shape) (cs ws ms : List ℕ) → agrees s cs ws ms ≡ true → (p : ℕ) → p < s.n → T (lost ms p || eqb (at cs p) (at ws p))
unfolding agrees
agrees_at s cs ws ms e p h = every_at (λ p. lost ms p || eqb (at cs p) (at ws p)) s.n (so e) p h

pub agrees_kept : (s : Shape) (cs ws ms : List ℕ) → agrees s cs ws ms ≡ true → (p : ℕ) → p < s.n → lost ms p ≡ false → at cs p ≡ at ws p
agrees_kept s cs ws ms e p h k = go (lost ms p) (agrees_at s cs ws ms e p h) k
  where
    go : (b : Bool) → T (b || eqb (at cs p) (at ws p)) → b ≡ false → at cs p ≡ at ws p
    go true t k = cc k
    go false t k = eqb→eq (at cs p) (at ws p) t

-- a slot is lost, or both words have there what the third has
either : (x : Bool) (a b w : ℕ) → T (x || eqb a w) → T (x || eqb b w) → T (x || eqb a b)
either true a b w s t = tt
either false a b w s t = go (eqb a b) (same? a b)
  where
    go : (x : Bool) → Same a b x → T x
    go true e = tt
    go false (other n) = absurd (n (eqb→eq a w s ∙ sym (eqb→eq b w t)))

pub counts : (s : Shape) (cs ds ws ms : List ℕ) → agrees s cs ws ms ≡ true → agrees s ds ws ms ≡ true → s.n ≤ lost_number s ms + shared s cs ds
unfolding lost_number shared
counts s cs ds ws ms a b =
    count_split (lost ms) (λ p. eqb (at cs p) (at ds p)) s.n
    (λ p h. either (lost ms p) (at cs p) (at ds p) (at ws p) (agrees_at s cs ws ms a p h) (agrees_at s ds ws ms b p h))

pub decodes_back : DecodesBack
unfolding DecodesBack guarantee most_shared missing
decodes_back s xs ws ms F mx agree few = (fits_intro s ws ms xs mx agree, only)
  where
    only : (ys : List ℕ) → fits s ws ms ys ≡ true → ys ≡ xs
    only ys f =
        let c = counts s (encoded s ys) (encoded s xs) ws ms (fits_agrees s ws ms ys f) agree in
        let h : degree s < shared s (encoded s ys) (encoded s xs) + (room s - s.n) = omega (arith, F.degree_most, n_room s F.placed, F.placed.n_least, few) in
        same_message s F ys xs (message_is s ys (fits_message s ws ms ys f)) (message_is s xs mx)
        (λ p. eqb (at (encoded s ys) p) (at (encoded s xs) p)) (λ p b m. eqb→eq (at (encoded s ys) p) (at (encoded s xs) p) m)
        (unfold shared in h)
