-- Whole groups: codewords that are 0 at every kept slot are polynomials that are 0 there and have no coefficient at the gaps. Assumes nothing.
--   most_byte, gaps_inside, kept_fewer    what the question on such polynomials asks for
--   annulled    what it answers
use mathlib.Core.Path.{◌≡◌, sym, ap, ◌∙◌}
use mathlib.Core.Logic.{◌≢◌}
use mathlib.Core.Bool.{Bool, true, not}
use mathlib.Core.List.{List}
use Prim.Native.Nat.{ℕ, ◌+◌, ◌*◌, ◌-◌, ◌≤◌, ◌<◌}
use native.Mathlib.Decide.{dec_lt}
use native.Mathlib.Omega.{arith}
use lib.Dec.{eqb}
use borrow.Author.Tests.{eq-eqb}
use Rattle.algebra.specs.Sequence.{at, count, all_below}
use Rattle.algebra.proofs.Booleans.{so, yes_true}
use Rattle.algebra.proofs.At.{at_past}
use Rattle.algebra.proofs.Every.{every_intro}
use Rattle.algebra.proofs.Below.{all_below_any}
use Rattle.algebra.proofs.Counting.{count_not}
use Rattle.field.specs.Field.{q}
use Rattle.field.specs.Polynomial.{poly}
use Rattle.field.proofs.Elem.{zero_below}
use Rattle.code.specs.declared.Shape.{Shape}
use Rattle.code.specs.Shape.{size, point}
use Rattle.code.specs.Basis.{exponent, degree}
use Rattle.code.specs.Codeword.{guarantee}
use Rattle.code.specs.Decoding.{lost}
use Rattle.code.specs.Erasure.{lost_number}
use Rattle.code.specs.Laws.{Whole}
use Rattle.code.proofs.Bounds.{n_most}
use Rattle.code.proofs.Codewords.{MessageIs, message_is, is_message_of}
use Rattle.code.proofs.Coefficients.{coefficients, coefficients_below, length_coefficients, Place, taken, gap as gap_at, place}
use Rattle.fitting.specs.Step.{gap, gaps_zero, message_of}
use Rattle.fitting.proofs.Reading.{gap_most, number_is, value_of, symbol_of, gap_of, gap_last, read_message, read_at, read_same, read_symbol}
use Rattle.annihilator.specs.Annihilator as annihilator
use Rattle.deciding.specs.Step.{gaps, Annuls, Annulled, none, some}

module _ (s : Shape) (L : Whole s) (sure : ℕ) (e : sure ≡ guarantee s) where
  pub most_byte : s.n - sure ≤ 255
  most_byte = omega (arith, n_most s L.plain.family.placed)

  pub gaps_inside : (j : ℕ) → j < gaps s → j * size s + s.r < s.n - sure
  unfolding gap
  gaps_inside j h = omega (arith, number_is s L sure e, gap_most s L j h)

  pub kept_fewer : (ms : List ℕ) → guarantee s < lost_number s ms → count (λ p. not (eqb (at ms p) 1)) s.n < s.n - sure
  unfolding lost_number lost
  kept_fewer ms h = omega (arith, count_not (λ p. eqb (at ms p) 1) s.n)

module _ (s : Shape) (L : Whole s) (stands : s.tolerance ≡ 1) (sure : ℕ) (e : sure ≡ guarantee s) (xs : List ℕ)
    (W : (p : ℕ) → p < s.n → at xs p ≡ point s p) (ms : List ℕ) where
  abbrev Annihilates : List ℕ → Type 0
  Annihilates ds = annihilator.Annihilates s.field s.n (size s) s.r (gaps s) (s.n - sure) xs ms ds

  -- a message's coefficients
  module _ (zs : List ℕ) (A : Annuls s ms zs) where
    Z : MessageIs s zs
    Z = message_is s zs A.message

    coefficients_annihilate : Annihilates (coefficients s zs)
    unfolding gap
    coefficients_annihilate =
        record {
          size_is = length_coefficients s zs ∙ sym (number_is s L sure e);
          below = yes_true (all_below (q s.field) (coefficients s zs)) (coefficients_below s zs);
          zeros = λ p h n. ap (poly s.field (coefficients s zs)) (W p h) ∙ value_of s L stands zs Z p ∙ A.zeros p h n;
          gap_zeros = λ j h. gap_of s L stands zs Z (gap s j) (gap_most s L j h) (gap_last s L stands j);
        }

    zeros_of : ((m : ℕ) → at (coefficients s zs) m ≡ 0) → (i : ℕ) → at zs i ≡ 0
    zeros_of z i = go (dec_lt i s.k)
      where
        go : Dec (i < s.k) → at zs i ≡ 0
        go (yes h) = sym (symbol_of s L stands zs Z i h) ∙ z (exponent s i)
        go (no h) = at_past zs i (omega (arith, Z.length_is))

  -- the message read off the coefficients
  module _ (ds : List ℕ) (D : Annihilates ds) where
    below : (m : ℕ) → at ds m < q s.field
    below = all_below_any (q s.field) ds (zero_below s.field) (so D.below)

    few : (m : ℕ) → degree s < m → at ds m ≡ 0
    few m h = at_past ds m (omega (arith, D.size_is, number_is s L sure e))

    clear : gaps_zero s ds ≡ true
    unfolding gaps_zero gap
    clear = yes_true (gaps_zero s ds) (every_intro (λ j. eqb (at ds (gap s j)) 0) (gaps s) (λ j h. so (eq-eqb (at ds (gap s j)) 0 (D.gap_zeros j h))))

    read_annuls : Annuls s ms (message_of s ds)
    read_annuls =
        record {
          message = is_message_of s (message_of s ds) (read_message s L stands ds below few clear);
          zeros = λ p h n.
              read_symbol s L stands ds below few clear p ∙ ap (poly s.field ds) (sym (W p h)) ∙ D.zeros p h n;
        }

    -- an entry that is not 0 is that of a message symbol
    read_some : (m : ℕ) → at ds m ≢ 0 → (i : ℕ) × (at (message_of s ds) i ≢ 0)
    read_some m n = go (dec_lt (degree s) m)
      where
        go : Dec (degree s < m) → (i : ℕ) × (at (message_of s ds) i ≢ 0)
        go (yes h) = absurd (n (few m h))
        go (no h) = stands_at (place s L.plain.family.placed L.plain.second_none L.whole_groups L.plain.family.k_least m (omega arith))
          where
            stands_at : Place s m → (i : ℕ) × (at (message_of s ds) i ≢ 0)
            stands_at (taken i b p) = (i, λ z. n (ap (at ds) (sym p) ∙ sym (read_at s L stands ds below few clear i b) ∙ z))
            stands_at (gap_at l) = absurd (n (sym (read_same s L stands ds below few clear m) ∙ gap_of s L stands (message_of s ds) (read_message s L stands ds below few clear) m (omega arith) l))

  pub annulled : (x : Bool) → annihilator.Annihilated s.field s.n (size s) s.r (gaps s) (s.n - sure) xs ms x → Annulled s ms x
  annulled x (annihilator.none h) = none (λ zs A. zeros_of zs A (h (coefficients s zs) (coefficients_annihilate zs A)))
  annulled x (annihilator.some ds m D n) =
      let r = read_some ds D m n in
      some (message_of s ds) r.0 (read_annuls ds D) r.1
