-- Polynomials over bytes as sums. Assumes nothing.
--   times_sum    a product with a sum
--   poly_sum     the value of a polynomial is the sum of its coefficients times powers
use mathlib.Core.Path.{◌≡◌, sym, ap, ap₂, ◌∙◌}
use mathlib.Core.List.{List, [], ◌∷◌}
use Prim.Native.Nat.{ℕ, zero, suc, ◌≤◌, ◌<◌}
use native.Mathlib.Omega.{arith}
use Rattle.algebra.specs.Sequence.{at}
use Rattle.field.specs.Field.{q, plus, times, times_from, power}
use Rattle.field.specs.Polynomial.{poly}
use Rattle.field.proofs.Byte.{◌⊕◌, times_right, times_assoc, one_times}
use Rattle.field.proofs.Elem.{power_below, times_zero}
use Rattle.field.proofs.Values.{poly_zeros}
use Rattle.tiles.specs.Step.{sum}
use Rattle.tiles.proofs.Sum.{sum_same, sum_front, sum_zero}

byte_power : (x e : ℕ) → x < 256 → power 1 x e < 256
unfolding q
byte_power x e h = power_below 1 x e h

byte_zero : (x : ℕ) → x < 256 → times_from 8 x 0 ≡ 0
unfolding q times
byte_zero x h = times_zero 1 x h

pub times_sum : (x : ℕ) (f : ℕ → ℕ) (n : ℕ) → x < 256 → times_from 8 x (sum 0 f n) ≡ sum 0 (λ i. times_from 8 x (f i)) n
unfolding sum
times_sum x f zero h = byte_zero x h
times_sum x f (suc n) h = times_right 8 x (sum 0 f n) (f n) h ∙ ap (λ y. y ⊕ times_from 8 x (f n)) (times_sum x f n h)

-- the entries from n on are 0
pub poly_sum : (cs : List ℕ) (x n : ℕ) → x < 256 → ((e : ℕ) → at cs e < 256) → ((e : ℕ) → n ≤ e → at cs e ≡ 0)
    → poly 1 cs x ≡ sum 0 (λ e. times_from 8 (power 1 x e) (at cs e)) n
unfolding q poly plus times power sum
poly_sum [] x n h b z =
    sym (sum_same 0 (λ e. times_from 8 (power 1 x e) 0) (λ e. 0) n (λ e l. byte_zero (power 1 x e) (byte_power x e h)) ∙ sum_zero n)
poly_sum (c ∷ cs) x zero h b z = poly_zeros 1 (c ∷ cs) x h (λ e. z e (omega arith))
poly_sum (c ∷ cs) x (suc n) h b z =
    ap₂ ◌⊕◌ (sym (one_times c (b 0)))
    (ap (times_from 8 x) (poly_sum cs x n h (λ e. b (suc e)) (λ e l. z (suc e) (omega arith)))
    ∙ times_sum x (λ e. times_from 8 (power 1 x e) (at cs e)) n h
    ∙ sum_same 0 (λ e. times_from 8 x (times_from 8 (power 1 x e) (at cs e))) (λ e. times_from 8 (power 1 x (suc e)) (at cs e)) n
    (λ e l. sym (times_assoc x (power 1 x e) (at cs e) h (byte_power x e h))))
    ∙ sym (sum_front (λ e. times_from 8 (power 1 x e) (at (c ∷ cs) e)) n)
