-- Messages and the symbols of codewords. Assumes nothing.
--   MessageIs s xs          == xs has k symbols, all below q
--   message_is, is_message_of
--   length_encoded, at_encoded, symbol_below, encoded_below
--   symbols_in_field            SymbolsInField of specs/Promise.antt
--   value_none               where all basis polynomials are 0 so is the value
use mathlib.Core.Path.{◌≡◌, refl, ap, ap₂, ◌∙◌}
use mathlib.Core.Bool.{true, ◌&&◌}
use mathlib.Core.List.{List, [], ◌∷◌}
use Prim.Native.Nat.{ℕ, suc, ◌+◌, ◌≤◌, ◌<◌}
use native.Mathlib.Omega.{arith}
use lib.Dec.{T, eqb, eqb→eq, eqb_refl, ltb, ltb→lt}
use lib.ListN.{length}
use Rattle.algebra.specs.Sequence.{at, all_below}
use Rattle.algebra.proofs.Booleans.{so, yes_true, and_left, and_right, and_both}
use Rattle.algebra.proofs.Tabulate.{length_tabulate, at_tabulate}
use Rattle.algebra.proofs.Below.{all_below_intro}
use Rattle.algebra.proofs.Ring.{mul_nil}
use Rattle.field.specs.Field.{q, plus, times}
use Rattle.field.proofs.Laws.{laws}
use Rattle.field.proofs.Elem.{ring_of, zero_below}
use Rattle.code.specs.declared.Shape.{Shape}
use Rattle.code.specs.Shape.{point}
use Rattle.code.specs.Basis.{basis}
use Rattle.code.specs.Codeword.{is_message, value_from, value, symbol, encoded}
use Rattle.code.specs.Promise.{SymbolsInField}

pub record MessageIs (s : Shape) (xs : List ℕ) : Type 0 where
  pub length_is : length xs ≡ s.k
  pub below : T (all_below (q s.field) xs)

module _ (s : Shape) (xs : List ℕ) where
  pub message_is : is_message s xs ≡ true → MessageIs s xs
  unfolding is_message
  message_is e =
      let a = eqb (length xs) s.k in
      let b = all_below (q s.field) xs in
      record { length_is = eqb→eq (length xs) s.k (and_left a b (so e)); below = and_right a b (so e) }

  pub is_message_of : MessageIs s xs → is_message s xs ≡ true
  unfolding is_message
  is_message_of M =
      let a = eqb (length xs) s.k in
      let b = all_below (q s.field) xs in
      let t : T (eqb (length xs) s.k) = rw M.length_is (eqb_refl s.k) in
      yes_true (a && b) (and_both a b t M.below)

  pub length_encoded : length (encoded s xs) ≡ s.n
  unfolding encoded
  length_encoded = length_tabulate (symbol s xs) s.n

  pub at_encoded : (p : ℕ) → p < s.n → at (encoded s xs) p ≡ symbol s xs p
  unfolding encoded
  at_encoded p h = at_tabulate (symbol s xs) 0 s.n p h

pub value_below : (s : Shape) (x m : ℕ) (xs : List ℕ) → value_from s x m xs < q s.field
unfolding value_from
value_below s x m [] = omega (arith, (laws s.field).two_below)
value_below s x m (y ∷ ys) = (laws s.field).plus_below _ _

pub symbol_below : (s : Shape) (xs : List ℕ) (p : ℕ) → symbol s xs p < q s.field
unfolding symbol value
symbol_below s xs p = value_below s (point s p) 0 xs

pub encoded_below : (s : Shape) (xs : List ℕ) → T (all_below (q s.field) (encoded s xs))
encoded_below s xs =
    all_below_intro (q s.field) (encoded s xs)
    (λ i b. let l : i < s.n = omega (arith, length_encoded s xs) in rw (at_encoded s xs i l) (symbol_below s xs i))

pub symbols_in_field : SymbolsInField
unfolding SymbolsInField
symbols_in_field s xs = yes_true (all_below (q s.field) (encoded s xs)) (encoded_below s xs)

none_from : (s : Shape) (x : ℕ) → ((m : ℕ) → m < s.k → basis s m x ≡ 0) → (m : ℕ) (ys : List ℕ) → m + length ys ≤ s.k
    → T (all_below (q s.field) ys) → value_from s x m ys ≡ 0
unfolding value_from all_below
none_from s x z m [] h t = refl
none_from s x z m (y ∷ ys) h t =
    let f = s.field in
    let b = ltb→lt y (q f) (and_left (ltb y (q f)) (all_below (q f) ys) t) in
    ap₂ (plus f) (ap (times f y) (z _ (omega arith)) ∙ ap (λ e. e.0) (mul_nil (ring_of f) (y, b)))
    (none_from s x z (suc m) ys (omega arith) (and_right (ltb y (q f)) (all_below (q f) ys) t)) ∙ (laws f).plus_zero 0 (zero_below f)

pub value_none : (s : Shape) (xs : List ℕ) (x : ℕ) → MessageIs s xs → ((m : ℕ) → m < s.k → basis s m x ≡ 0) → value s xs x ≡ 0
unfolding value
value_none s xs x M z = none_from s x z 0 xs (omega (arith, M.length_is)) M.below
