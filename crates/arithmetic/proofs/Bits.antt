-- Products over bytes, bit by bit. Assumes nothing.
--   bit_times, bit_times_below    the choice of a bit as a product; it is a byte
--   bits_none, bits_more, bits_all    the sum of the bits so far, and the product of what is left
use mathlib.Core.Path.{◌≡◌, refl, sym, ap, ap₂, ◌∙◌}
use Prim.Native.Nat.{ℕ, zero, suc, ◌+◌, ◌*◌, ◌/◌, ◌%◌, ◌^◌, ◌<◌}
use native.Mathlib.Nat.{pow-suc, div-one, div-div-eq-div-mul, zero-mul, one-mul}
use native.Mathlib.Omega.{arith}
use Rattle.field.specs.Field.{doubled, pick, times_from}
use Rattle.field.proofs.Xor.{xor_assoc}
use Rattle.field.proofs.Byte.{◌⊕◌, ⊕_zero, zero_⊕, times_step, times_below}

bit_times : (n a : ℕ) → n < 2 → n * a ≡ pick n a
bit_times zero a h = zero-mul a
bit_times (suc zero) a h = one-mul a
bit_times (suc (suc n)) a h = absurd (omega arith)

pub bit_times_below : (v a : ℕ) → a < 256 → v % 2 * a < 256
bit_times_below v a h = let b : v % 2 < 2 = omega arith in go (v % 2) b
  where
    go : (n : ℕ) → n < 2 → n * a < 256
    go zero l = rw (zero-mul a) (omega arith)
    go (suc zero) l = rw (one-mul a) h
    go (suc (suc n)) l = absurd (omega arith)

-- s is the sum of the bits below i, and m is a doubled i times
pub record Bits (a b s m i : ℕ) : Type 0 where
  pub left : ℕ
  pub whole : i + left ≡ 8
  pub sum_below : s < 256
  pub multiple_below : m < 256
  pub is : s ⊕ times_from left m (b / 2 ^ i) ≡ times_from 8 a b

pub bits_none : (a b : ℕ) → a < 256 → Bits a b 0 a 0
bits_none a b h =
    record {
      left = 8;
      whole = refl;
      sum_below = omega arith;
      multiple_below = h;
      is = zero_⊕ (times_below 8 a (b / 2 ^ 0)) ∙ ap (times_from 8 a) (div-one b);
    }

pub bits_more : (a b s m i : ℕ) → i < 8 → doubled m < 256 → s ⊕ (b / 2 ^ i % 2 * m) < 256 → Bits a b s m i
    → Bits a b (s ⊕ (b / 2 ^ i % 2 * m)) (doubled m) (suc i)
bits_more a b s m i h d l B = go B.left B.whole B.is
  where
    go : (k : ℕ) → i + k ≡ 8 → s ⊕ times_from k m (b / 2 ^ i) ≡ times_from 8 a b → Bits a b (s ⊕ (b / 2 ^ i % 2 * m)) (doubled m) (suc i)
    go zero w e = absurd (omega arith)
    go (suc k) w e =
        let v = b / 2 ^ i in
        let bit : v % 2 < 2 = omega arith in
        let half : b / 2 ^ suc i ≡ v / 2 = ap (λ n. b / n) (pow-suc 2 i) ∙ sym (div-div-eq-div-mul b (2 ^ i) 2) in
        record {
          left = k;
          whole = omega arith;
          sum_below = l;
          multiple_below = d;
          is =
              xor_assoc 8 s (v % 2 * m) (times_from k (doubled m) (b / 2 ^ suc i))
              ∙ ap (λ n. s ⊕ n) (ap₂ ◌⊕◌ (bit_times (v % 2) m bit) (ap (times_from k (doubled m)) half) ∙ sym (times_step k m v)) ∙ e;
        }

pub bits_all : (a b s m i : ℕ) → i ≡ 8 → Bits a b s m i → s ≡ times_from 8 a b
bits_all a b s m i h B = go B.left B.whole B.is
  where
    go : (k : ℕ) → i + k ≡ 8 → s ⊕ times_from k m (b / 2 ^ i) ≡ times_from 8 a b → s ≡ times_from 8 a b
    go zero w e = let z : times_from 0 m (b / 2 ^ i) ≡ 0 = unfold times_from in refl in sym (⊕_zero B.sum_below) ∙ ap (λ n. s ⊕ n) (sym z) ∙ e
    go (suc k) w e = absurd (omega arith)
