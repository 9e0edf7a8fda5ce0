-- The interpolation polynomial of the kept symbols, and the messages that fit. Assumes nothing.
--   gaps_none, gaps_some    the coefficients of gaps, read one after the other
--   gap_room, exponent_room, message_sum    where the coefficients of gaps and of message symbols stand
--   points_below, points_differ, sure_most, within    what the interpolation asks for
--   verdict_missed, verdict_foreign, verdict_read    no polynomial passes; it is no encoding polynomial; it is one
use mathlib.Core.Path.{◌≡◌, refl, sym, ap, ◌∙◌}
use mathlib.Core.Logic.{◌≢◌}
use mathlib.Core.Bool.{Bool, true, false}
use mathlib.Core.List.{List}
use Prim.Native.Nat.{ℕ, ◌+◌, ◌*◌, ◌-◌, ◌/◌, ◌≤◌, ◌<◌}
use native.Mathlib.Omega.{arith}
use lib.Dec.{eqb}
use borrow.Author.Tests.{eq-eqb, ne_eqb}
use Rattle.algebra.specs.Sequence.{at, tabulate, count}
use Rattle.algebra.proofs.Booleans.{so, yes_true, differ}
use Rattle.algebra.proofs.Tabulate.{tabulate_is, tabulate_same}
use Rattle.algebra.proofs.Every.{every_intro, every_not}
use Rattle.field.specs.Field.{q}
use Rattle.field.specs.Polynomial.{poly}
use Rattle.code.specs.declared.Shape.{Shape}
use Rattle.code.specs.Shape.{size, point}
use Rattle.code.specs.Basis.{exponent, degree}
use Rattle.code.specs.Codeword.{guarantee}
use Rattle.code.specs.Decoding.{lost, fits}
use Rattle.code.specs.Erasure.{lost_number}
use Rattle.code.specs.Laws.{Placed, Whole}
use Rattle.code.specs.Promise.{PointsDiffer}
use Rattle.code.specs.Verdict.{Verdict, one, none}
use Rattle.code.proofs.Bounds.{n_most}
use Rattle.code.proofs.Places.{n_room}
use Rattle.code.proofs.Points.{point_below, points_differ as slots_differ}
use Rattle.code.proofs.Codewords.{MessageIs}
use Rattle.code.proofs.Grouped.{exponent_is}
use Rattle.code.proofs.Coefficients.{coefficients, coefficients_below, length_coefficients}
use Rattle.interpolation.specs.Interpolated.{Passes, Interpolated}
use Rattle.code.proofs.Fits.{Fit, fits_to, fits_of}
use Rattle.fitting.specs.Step.{gap, gaps_zero, message_of}
use Rattle.fitting.proofs.Reading.{degree_below, exponent_most, gap_most, number_is, value_of, symbol_of, gap_of, gap_last, read_message, read_symbol}

-- g is the size of a group
module _ (s : Shape) (cs : List ℕ) (g : ℕ) (e : g ≡ size s) where
  pub gaps_none : ((j : ℕ) → j < (s.k - 1) / s.r → at cs (j * g + s.r) ≡ 0) → true ≡ gaps_zero s cs
  unfolding gaps_zero gap
  gaps_none z =
      sym (yes_true (gaps_zero s cs) (every_intro (λ j. eqb (at cs (gap s j)) 0) ((s.k - 1) / s.r) (λ j h. so (eq-eqb (at cs (gap s j)) 0 (rw e at (z j h))))))

  pub gaps_some : (j : ℕ) → j < (s.k - 1) / s.r → at cs (j * g + s.r) ≢ 0 → false ≡ gaps_zero s cs
  unfolding gaps_zero gap
  gaps_some j h n =
      sym (every_not (λ j. eqb (at cs (gap s j)) 0) ((s.k - 1) / s.r) j h (ne_eqb (at cs (gap s j)) 0 (rw e at n)))

module _ (s : Shape) (L : Whole s) where
  abbrev P : Placed s
  P = L.plain.family.placed

  pub gap_room : (j : ℕ) → j < (s.k - 1) / s.r → j * size s + s.r < 256
  unfolding gap
  gap_room j h = omega (arith, gap_most s L j h, degree_below s L, n_most s P)

  pub exponent_room : (m : ℕ) → m < s.k → m + s.tolerance * (m / s.r) < 256
  exponent_room m h = omega (arith, exponent_is s P L.plain.second_none m, exponent_most s L m h, degree_below s L, n_most s P)

  pub message_sum : (cs : List ℕ) → tabulate (λ m. at cs (m + s.tolerance * (m / s.r))) s.k ≡ message_of s cs
  unfolding message_of
  message_sum cs =
      tabulate_same 0 (λ m. at cs (m + s.tolerance * (m / s.r))) (λ m. at cs (exponent s m)) s.k
      (λ m h. ap (at cs) (sym (exponent_is s P L.plain.second_none m)))

  pub sure_most : (sure : ℕ) → sure ≡ guarantee s → sure ≤ s.n
  unfolding guarantee
  sure_most sure e = omega arith

  -- what the interpolation asks for
  module _ (xs : List ℕ) (W : (p : ℕ) → p < s.n → at xs p ≡ point s p) where
    pub points_below : (p : ℕ) → p < s.n → at xs p < q s.field
    points_below p h = rw (W p h) (point_below s p)

    pub points_differ : (i j : ℕ) → i < s.n → j < s.n → at xs i ≡ at xs j → i ≡ j
    unfolding PointsDiffer
    points_differ i j h l d =
        slots_differ s i j P (omega (arith, n_room s P)) (omega (arith, n_room s P)) (sym (W i h) ∙ d ∙ W j l)

  pub within : (ms : List ℕ) (sure : ℕ) → sure ≡ guarantee s → lost_number s ms ≤ guarantee s
      → s.n - sure + count (λ p. eqb (at ms p) 1) s.n ≤ s.n
  unfolding lost_number lost
  within ms sure e h = omega (arith, sure_most sure e)

-- the polynomial found, and the messages that fit
module _ (s : Shape) (L : Whole s) (stands : s.tolerance ≡ 1) (sure : ℕ) (e : sure ≡ guarantee s) (xs : List ℕ) (W : (p : ℕ) → p < s.n → at xs p ≡ point s p) (ws ms cs : List ℕ) (r : Bool)
    (I : Interpolated s.field s.n (s.n - sure) xs ws ms cs r) where
  -- a message that fits has the polynomial found
  module _ (ys : List ℕ) (f : fits s ws ms ys ≡ true) where
    F : Fit s ws ms ys
    F = fits_to s ws ms ys f

    M : MessageIs s ys
    M = F.message

    passes : Passes s.field s.n xs ws ms (coefficients s ys)
    passes p h n = ap (poly s.field (coefficients s ys)) (W p h) ∙ value_of s L stands ys M p ∙ F.agree p h n

    found : (r ≡ true) × ((m : ℕ) → m < s.n - sure → at (coefficients s ys) m ≡ at cs m)
    found = I.only (coefficients s ys) (coefficients_below s ys) (length_coefficients s ys ∙ sym (number_is s L sure e)) passes

    gaps : gaps_zero s cs ≡ true
    unfolding gaps_zero
    gaps =
        yes_true (gaps_zero s cs)
        (every_intro (λ j. eqb (at cs (gap s j)) 0) ((s.k - 1) / s.r)
        (λ j h. so (eq-eqb (at cs (gap s j)) 0
        (sym (found.1 (gap s j) (omega (arith, number_is s L sure e, gap_most s L j h))) ∙ gap_of s L stands ys M (gap s j) (gap_most s L j h) (gap_last s L stands j)))))

    read : ys ≡ message_of s cs
    unfolding message_of
    read =
        tabulate_is (λ m. at cs (exponent s m)) 0 s.k ys M.length_is
        (λ m h. sym (symbol_of s L stands ys M m h) ∙ found.1 (exponent s m) (omega (arith, number_is s L sure e, exponent_most s L m h)))

  pub verdict_missed : (a : List ℕ) → r ≡ false → Verdict s ws ms a a 9
  verdict_missed a n = none (λ ys f. differ (sym (found ys f).0 ∙ n)) refl

  pub verdict_foreign : (a : List ℕ) → gaps_zero s cs ≡ false → Verdict s ws ms a a 9
  verdict_foreign a n = none (λ ys f. differ (sym (gaps ys f) ∙ n)) refl

  -- the message read has the polynomial found
  module _ (t : r ≡ true) (z : gaps_zero s cs ≡ true) where
    few : (m : ℕ) → degree s < m → at cs m ≡ 0
    few m h = I.few m (omega (arith, number_is s L sure e))

    fit : fits s ws ms (message_of s cs) ≡ true
    fit =
        fits_of s ws ms (message_of s cs)
        (record {
          message = read_message s L stands cs I.below few z;
          agree = λ p h n.
              read_symbol s L stands cs I.below few z p ∙ ap (poly s.field cs) (sym (W p h)) ∙ I.through t p h n;
        })

    pub verdict_read : (a b : List ℕ) → b ≡ message_of s cs → Verdict s ws ms a b 0
    verdict_read a b m = rw m (one fit read)
