-- A message and the coefficients of its encoding polynomial, of whole groups. Assumes nothing.
--   number_is                      n less the guarantee is the number of coefficients
--   exponent_most, gap_most, gap_last    the exponents of message symbols and the gaps between them
--   value_of, symbol_of, gap_of    a message's coefficients
--   read_message, read_same, read_symbol    coefficients that are 0 at the gaps are those of the message read off them
use mathlib.Core.Path.{◌≡◌, sym, ap, ◌∙◌}
use mathlib.Core.Bool.{true}
use mathlib.Core.List.{List}
use Prim.Native.Nat.{ℕ, suc, ◌+◌, ◌*◌, ◌-◌, ◌/◌, ◌%◌, ◌≤◌, ◌<◌}
use native.Mathlib.Nat.{div-add-mod', mod-lt, mul-le-mul_right}
use native.Mathlib.Decide.{dec_lt}
use native.Mathlib.Omega.{arith}
use lib.Arith.{digits_mod}
use lib.Dec.{eqb, eqb→eq}
use lib.ListN.{get_or-eq_default}
use Rattle.algebra.specs.Sequence.{at}
use Rattle.algebra.proofs.Booleans.{so}
use Rattle.algebra.proofs.Tabulate.{length_tabulate, at_tabulate}
use Rattle.algebra.proofs.Every.{every_at}
use Rattle.algebra.proofs.Below.{all_below_intro}
use Rattle.algebra.proofs.Locality.{raised}
use Rattle.field.specs.Field.{q}
use Rattle.field.specs.Polynomial.{poly}
use Rattle.code.specs.declared.Shape.{Shape}
use Rattle.code.specs.Shape.{size, room, missing, point}
use Rattle.code.specs.Basis.{exponent, degree, most_shared}
use Rattle.code.specs.Codeword.{symbol, guarantee}
use Rattle.code.specs.Laws.{Placed, Whole}
use Rattle.code.specs.Promise.{ExponentsAre}
use Rattle.code.proofs.Bounds.{size_is}
use Rattle.code.proofs.Places.{whole_room, size_least}
use Rattle.code.proofs.Points.{point_below}
use Rattle.code.proofs.Codewords.{MessageIs}
use Rattle.code.proofs.Grouped.{exponent_raised}
use Rattle.code.proofs.Shared.{exponents_are}
use Rattle.code.proofs.Coefficients.{coefficients, length_coefficients, coefficients_value, coefficient_at, coefficient_gap, Place, taken, gap as gap_at, place}
use Rattle.fitting.specs.Step.{gap, gaps_zero, message_of}
use Rattle.field.proofs.Values.{poly_ext}

module _ (s : Shape) (L : Whole s) where
  abbrev P : Placed s
  P = L.plain.family.placed

  pub room_is : room s ≡ s.n
  room_is = whole_room s P L.whole_groups

  -- the degree, and the exponents below it
  pub degree_below : degree s < s.n
  degree_below = omega (arith, L.plain.family.degree_most, room_is)

  pub exponent_most : (m : ℕ) → m < s.k → exponent s m ≤ degree s
  unfolding ExponentsAre
  exponent_most = (exponents_are s L).most

  -- the degree is that of message symbol k - 1
  degree_is : degree s ≡ (s.k - 1) / s.r * size s + (s.k - 1) % s.r
  unfolding ExponentsAre raised
  degree_is = sym (exponents_are s L).last ∙ exponent_raised s L.plain.second_none (s.k - 1)

  pub gap_most : (j : ℕ) → j < (s.k - 1) / s.r → gap s j ≤ degree s
  unfolding gap
  gap_most j h = omega (arith, degree_is, mul-le-mul_right (size s) h, size_is s)

  -- n less the guarantee is the number of coefficients
  pub number_is : (sure : ℕ) → sure ≡ guarantee s → s.n - sure ≡ suc (degree s)
  unfolding guarantee most_shared missing
  number_is sure e = omega (arith, degree_below, room_is)

module _ (s : Shape) (L : Whole s) (stands : s.tolerance ≡ 1) where
  -- a message's coefficients
  module _ (ys : List ℕ) (M : MessageIs s ys) where
    pub value_of : (p : ℕ) → poly s.field (coefficients s ys) (point s p) ≡ symbol s ys p
    value_of = coefficients_value s (P s L) L.plain.second_none L.whole_groups L.plain.family.k_least ys M

    pub symbol_of : (m : ℕ) → m < s.k → at (coefficients s ys) (exponent s m) ≡ at ys m
    symbol_of = coefficient_at s (P s L) L.plain.second_none L.whole_groups L.plain.family.k_least ys M

    pub gap_of : (i : ℕ) → i ≤ degree s → s.r ≤ i % size s → at (coefficients s ys) i ≡ 0
    gap_of = coefficient_gap s (P s L) L.plain.second_none L.whole_groups L.plain.family.k_least ys M

  -- a gap is the last place of its block of exponents
  pub gap_last : (j : ℕ) → s.r ≤ gap s j % size s
  unfolding gap
  gap_last j = let l : s.r < size s = omega (arith, size_is s, stands) in omega (arith, digits_mod j l)

  -- coefficients, no more than the degree allows, that are 0 at the gaps
  module _ (cs : List ℕ) (below : (m : ℕ) → at cs m < q s.field) (few : (m : ℕ) → degree s < m → at cs m ≡ 0) (z : gaps_zero s cs ≡ true) where
    pub read_at : (m : ℕ) → m < s.k → at (message_of s cs) m ≡ at cs (exponent s m)
    unfolding message_of
    read_at m h = at_tabulate (λ m. at cs (exponent s m)) 0 s.k m h

    pub read_message : MessageIs s (message_of s cs)
    unfolding message_of
    read_message =
        record {
          length_is = length_tabulate (λ m. at cs (exponent s m)) s.k;
          below = all_below_intro (q s.field) (message_of s cs)
              (λ m h. let l : m < s.k = omega (arith, length_tabulate (λ m. at cs (exponent s m)) s.k) in
              rw (read_at m l) (below (exponent s m)));
        }

    gap_zero : (j : ℕ) → j < (s.k - 1) / s.r → at cs (gap s j) ≡ 0
    unfolding gaps_zero
    gap_zero j h = eqb→eq (at cs (gap s j)) 0 (every_at (λ j. eqb (at cs (gap s j)) 0) ((s.k - 1) / s.r) (so z) j h)

    -- up to the degree a place that no exponent has is a gap
    block_below : (i : ℕ) → i ≤ degree s → s.r ≤ i % size s → i / size s < (s.k - 1) / s.r
    block_below i h l = go (dec_lt (i / size s) ((s.k - 1) / s.r))
      where
        go : Dec (i / size s < (s.k - 1) / s.r) → i / size s < (s.k - 1) / s.r
        go (yes b) = b
        go (no b) =
            let k : (s.k - 1) / s.r ≤ i / size s = omega arith in
            absurd (omega (arith, degree_is s L, div-add-mod' i (size s), mod-lt (s.k - 1) (P s L).r_least, mul-le-mul_right (size s) k))

    gap_is : (i : ℕ) → s.r ≤ i % size s → gap s (i / size s) ≡ i
    unfolding gap
    gap_is i l = omega (arith, div-add-mod' i (size s), mod-lt i (size_least s (P s L)), size_is s, stands)

    pub read_same : (m : ℕ) → at (coefficients s (message_of s cs)) m ≡ at cs m
    read_same m = go (dec_lt (degree s) m)
      where
        within_most : m ≤ degree s → Place s m → at (coefficients s (message_of s cs)) m ≡ at cs m
        within_most b (taken i h p) =
            ap (at (coefficients s (message_of s cs))) (sym p) ∙ symbol_of (message_of s cs) read_message i h ∙ read_at i h ∙ ap (at cs) p
        within_most b (gap_at l) =
            gap_of (message_of s cs) read_message m b l ∙ sym (gap_zero (m / size s) (block_below m b l)) ∙ ap (at cs) (gap_is m l)

        go : Dec (degree s < m) → at (coefficients s (message_of s cs)) m ≡ at cs m
        go (no h) =
            let b : m ≤ degree s = omega arith in
            within_most b (place s (P s L) L.plain.second_none L.whole_groups L.plain.family.k_least m b)
        go (yes h) = get_or-eq_default (coefficients s (message_of s cs)) 0 (omega (arith, length_coefficients s (message_of s cs))) ∙ sym (few m h)

    pub read_symbol : (p : ℕ) → symbol s (message_of s cs) p ≡ poly s.field cs (point s p)
    read_symbol p =
        sym (value_of (message_of s cs) read_message p)
        ∙ poly_ext s.field (coefficients s (message_of s cs)) cs (point s p) (point_below s p) read_same
