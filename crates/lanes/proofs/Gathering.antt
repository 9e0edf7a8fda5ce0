-- Numbers from their bits. Assumes nothing.
--   gathered_same   bits that agree
--   gathered_bits   a byte is gathered from its eight bits
--   lane_at         entry p of a lane
use mathlib.Core.Path.{◌≡◌, refl, sym, ap, ap₂, ◌∙◌}
use mathlib.Core.List.{List}
use Prim.Native.Nat.{ℕ, zero, suc, ◌+◌, ◌*◌, ◌/◌, ◌%◌, ◌^◌, ◌<◌}
use native.Mathlib.Nat.{div-one, div-div-eq-div-mul, pow-succ'}
use native.Mathlib.Omega.{arith}
use Rattle.algebra.specs.Sequence.{at}
use Rattle.algebra.proofs.Tabulate.{at_tabulate}
use Rattle.lanes.specs.Lane.{bit, gathered, lane}

pub gathered_same : (f g : ℕ → ℕ) (n : ℕ) → ((p : ℕ) → p < n → f p ≡ g p) → gathered f n ≡ gathered g n
unfolding gathered
gathered_same f g zero h = refl
gathered_same f g (suc n) h =
    ap₂ (λ a b. a + 2 * b) (h 0 (omega arith)) (gathered_same (λ p. f (suc p)) (λ p. g (suc p)) n (λ p l. h (suc p) (omega arith)))

bit_half : (p x : ℕ) → bit (suc p) x ≡ bit p (x / 2)
bit_half p x = ap (λ n. n % 2) (ap (λ n. x / n) (pow-succ' 2 p) ∙ sym (div-div-eq-div-mul x 2 (2 ^ p)))

of_bits : (n x : ℕ) → x < 2 ^ n → gathered (λ p. bit p x) n ≡ x
unfolding gathered
of_bits zero x h = omega arith
of_bits (suc n) x h =
    let e : gathered (λ p. bit (suc p) x) n ≡ x / 2 =
    gathered_same (λ p. bit (suc p) x) (λ p. bit p (x / 2)) n (λ p l. bit_half p x) ∙ of_bits n (x / 2) (omega arith) in
    omega (arith, e, div-one x)

pub gathered_bits : (x : ℕ) → x < 256 → gathered (λ p. bit p x) 8 ≡ x
gathered_bits x h = of_bits 8 x h

pub lane_at : (xs : List ℕ) (o p : ℕ) → p < 8 → at (lane xs o) p ≡ at xs (o + p * 32)
lane_at xs o p h = at_tabulate (λ p. at xs (o + p * 32)) 0 8 p h
