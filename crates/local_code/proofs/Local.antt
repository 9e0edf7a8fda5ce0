-- The coefficients of a local polynomial, made from the last message symbol to the first. Assumes nothing.
--   place_room                 a place in a block of r is an index of 16 coefficients
--   LocalFrom f r y m ms z    == z holds the coefficients that the symbols of ms from symbol m on give
--   local_none, local_more, local_all    no symbol yet; one more; the local polynomial
use mathlib.Core.Path.{◌≡◌, sym, ap, ◌∙◌, subst}
use mathlib.Core.List.{List, ◌∷◌}
use Prim.Native.Nat.{ℕ, suc, ◌+◌, ◌-◌, ◌%◌, ◌≤◌, ◌<◌}
use native.Mathlib.Nat.{mod-lt}
use native.Mathlib.Decide.{ℕ_discrete}
use native.Mathlib.Omega.{arith}
use lib.ListN.{length, take, drop, set, replicate, length-set, length-replicate, get_or-replicate, drop_of_length-le}
use lib.Seq.{drop-cons, get_or-take, length-take-le, get_or-set_same, get_or-set_other}
use Rattle.algebra.specs.Sequence.{at}
use Rattle.algebra.specs.Strand.{strand}
use Rattle.algebra.proofs.Tabulate.{tabulate_is}
use Rattle.algebra.proofs.Strands.{strand_own, strand_other}
use Rattle.field.specs.Field.{plus, times}
use Rattle.field.specs.Polynomial.{poly}
use Rattle.code.specs.declared.Shape.{Shape}
use Rattle.code.specs.Laws.{Placed}
use Rattle.code.proofs.Bounds.{r_most}
use Rattle.local_code.specs.Step.{local_coefs}

pub place_room : (s : Shape) (P : Placed s) (i z : ℕ) → z ≡ (i + (s.r - 1)) % s.r → z < 16
place_room s P i z e = omega (arith, mod-lt (i + (s.r - 1)) P.r_least, r_most s P)

pub record LocalFrom (f r y m : ℕ) (ms z : List ℕ) : Type 0 where
  pub size : length z ≡ 16
  pub entry : (i : ℕ) → i < r → at z i ≡ poly f (strand r i m (drop m ms)) y

module _ (f r y : ℕ) where
  pub local_none : (m : ℕ) (ms : List ℕ) → length ms ≤ m → r ≤ 16 → LocalFrom f r y m ms (replicate 16 0)
  unfolding strand poly
  local_none m ms h k =
      record {
        size = length-replicate {A = ℕ} 16 0;
        entry = λ i b. get_or-replicate {A = ℕ} 16 i 0 0 (omega arith) ∙ sym (ap (λ xs. poly f (strand r i m xs) y) (drop_of_length-le ms {i = m} h));
      }

  step : (m v : ℕ) (ms z : List ℕ) → 1 ≤ r → r ≤ 16 → m < length ms → v ≡ plus f (at ms m) (times f y (at z (m % r)))
      → LocalFrom f r y (suc m) ms z → LocalFrom f r y m ms (set z (m % r) v)
  unfolding poly
  step m v ms z h k l e C =
      record { size = length-set z (m % r) v ∙ C.size; entry = λ i b. go i b (ℕ_discrete i (m % r)) }
    where
      front : drop m ms ≡ at ms m ∷ drop (suc m) ms
      front = drop-cons ms m 0 l

      go : (i : ℕ) → i < r → Dec (i ≡ m % r) → at (set z (m % r) v) i ≡ poly f (strand r i m (drop m ms)) y
      go i b (yes p) =
          rw p (get_or-set_same z (m % r) v 0 (omega (arith, C.size, mod-lt m h)) ∙ e
          ∙ ap (λ n. plus f (at ms m) (times f y n)) (C.entry (m % r) (mod-lt m h))
          ∙ sym (ap (λ xs. poly f xs y) (ap (strand r (m % r) m) front ∙ strand_own r m (at ms m) (drop (suc m) ms))))
      go i b (no n) =
          get_or-set_other z (m % r) i v 0 n ∙ C.entry i b
          ∙ sym (ap (λ xs. poly f xs y) (ap (strand r i m) front ∙ strand_other r i m (at ms m) (drop (suc m) ms) n))

  pub local_more : (m i v : ℕ) (ms z : List ℕ) → 1 ≤ r → r ≤ 16 → m < length ms → i ≡ m % r → v ≡ plus f (at ms m) (times f y (at z i))
      → LocalFrom f r y (suc m) ms z → LocalFrom f r y m ms (set z i v)
  local_more m i v ms z h k l p e C =
      subst (λ n. LocalFrom f r y m ms (set z n v)) (sym p) (step m v ms z h k l (e ∙ ap (λ n. plus f (at ms m) (times f y (at z n))) p) C)

pub local_all : (s : Shape) (y : ℕ) (ms z : List ℕ) → s.r ≤ 16 → LocalFrom s.field s.r y 0 ms z → take s.r z ≡ local_coefs s y ms
unfolding local_coefs
local_all s y ms z h C =
    tabulate_is (λ i. poly s.field (strand s.r i 0 ms) y) 0 s.r (take s.r z) (length-take-le s.r z (omega (arith, C.size)))
    (λ i b. get_or-take s.r z i 0 b ∙ C.entry i b)
