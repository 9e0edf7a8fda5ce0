-- Bits of numbers, and numbers gathered from bits. Assumes nothing.
--   bit_below, bit_suc            a bit is 0 or 1; the next bit is one of the half
--   bit_of_xor                       a bit of a sum over bytes
--   bit_above, bit_top, bit_low   of a number below 2^n, and of 2^n plus it
--   gathered_same, gathered_below
--   gathered_xor                  the number of bitwise sums
--   bit_gathered                  a bit of a gathered number
--   eight                         what holds of 0 to 7 holds below 8
use mathlib.Core.Path.{◌≡◌, refl, sym, ap, ap₂, ◌∙◌}
use Prim.Native.Nat.{ℕ, zero, suc, ◌+◌, ◌*◌, ◌/◌, ◌%◌, ◌^◌, ◌<◌}
use native.Mathlib.Nat.{mul_comm, pow-suc, div-one, div-eq_of_lt, div-div-eq-div-mul, add-mod, mod-lt}
use native.Mathlib.Omega.{arith}
use Rattle.field.specs.Field.{xor_from}
use Rattle.field.proofs.Xor.{xor_half, xor_bit}
use Rattle.lanes.specs.Lane.{bit, gathered}

two : 0 < 2
two = omega arith

pub bit_below : (s x : ℕ) → bit s x < 2
bit_below s x = mod-lt (x / 2 ^ s) two

bit_none : (x : ℕ) → bit 0 x ≡ x % 2
bit_none x = ap (λ n. n % 2) (div-one x)

bit_suc : (s x : ℕ) → bit (suc s) x ≡ bit s (x / 2)
bit_suc s x = ap (λ n. x / n % 2) (pow-suc 2 s ∙ mul_comm (2 ^ s) 2) ∙ ap (λ n. n % 2) (sym (div-div-eq-div-mul x 2 (2 ^ s)))

pub bit_of_xor : (k s x y : ℕ) → s < k → bit s (xor_from k x y) ≡ (bit s x + bit s y) % 2
bit_of_xor zero s x y h = absurd (omega arith)
bit_of_xor (suc k) zero x y h =
    bit_none (xor_from (suc k) x y) ∙ xor_bit k x y ∙ add-mod x y 2 ∙ ap₂ (λ a b. (a + b) % 2) (sym (bit_none x)) (sym (bit_none y))
bit_of_xor (suc k) (suc s) x y h =
    bit_suc s (xor_from (suc k) x y) ∙ ap (bit s) (xor_half k x y) ∙ bit_of_xor k s (x / 2) (y / 2) (omega arith)
    ∙ ap₂ (λ a b. (a + b) % 2) (sym (bit_suc s x)) (sym (bit_suc s y))

-- bits of a number with a bit more
pub bit_above : (n y : ℕ) → y < 2 ^ n → bit n y ≡ 0
bit_above n y h = ap (λ q. q % 2) (div-eq_of_lt h)

pub bit_top : (n y : ℕ) → y < 2 ^ n → bit n (2 ^ n + y) ≡ 1
bit_top zero y h = bit_none (2 ^ 0 + y) ∙ omega arith
bit_top (suc n) y h =
    let e : (2 ^ suc n + y) / 2 ≡ 2 ^ n + y / 2 = omega arith in
    bit_suc n (2 ^ suc n + y) ∙ ap (bit n) e ∙ bit_top n (y / 2) (omega arith)

pub bit_low : (n x y : ℕ) → x < n → bit x (2 ^ n + y) ≡ bit x y
bit_low zero x y h = absurd (omega arith)
bit_low (suc n) zero y h = bit_none (2 ^ suc n + y) ∙ omega arith ∙ sym (bit_none y)
bit_low (suc n) (suc x) y h =
    let e : (2 ^ suc n + y) / 2 ≡ 2 ^ n + y / 2 = omega arith in
    bit_suc x (2 ^ suc n + y) ∙ ap (bit x) e ∙ bit_low n x (y / 2) (omega arith) ∙ sym (bit_suc x y)

pub gathered_same : (a b : ℕ → ℕ) (n : ℕ) → ((p : ℕ) → p < n → a p ≡ b p) → gathered a n ≡ gathered b n
unfolding gathered
gathered_same a b zero h = refl
gathered_same a b (suc n) h =
    ap₂ (λ x y. x + 2 * y) (h 0 (omega arith)) (gathered_same (λ p. a (suc p)) (λ p. b (suc p)) n (λ p l. h (suc p) (omega arith)))

pub gathered_below : (b : ℕ → ℕ) (n : ℕ) → ((p : ℕ) → b p < 2) → gathered b n < 2 ^ n
unfolding gathered
gathered_below b zero h = omega arith
gathered_below b (suc n) h = omega (arith, h 0, gathered_below (λ p. b (suc p)) n (λ p. h (suc p)))

-- one bit more
sum_bit : (a b x y : ℕ) → (a + 2 * x + (b + 2 * y)) % 2 ≡ (a + b) % 2
sum_bit a b x y = omega arith

half : (a x : ℕ) → a < 2 → (a + 2 * x) / 2 ≡ x
half a x h = omega arith

pub gathered_xor : (a b : ℕ → ℕ) (n : ℕ) → ((p : ℕ) → a p < 2) → ((p : ℕ) → b p < 2)
    → gathered (λ p. (a p + b p) % 2) n ≡ xor_from n (gathered a n) (gathered b n)
unfolding gathered xor_from
gathered_xor a b zero h l = refl
gathered_xor a b (suc n) h l =
    let x = gathered (λ p. a (suc p)) n in
    let y = gathered (λ p. b (suc p)) n in
    ap₂ (λ u v. u + 2 * v) (sym (sum_bit (a 0) (b 0) x y))
    (gathered_xor (λ p. a (suc p)) (λ p. b (suc p)) n (λ p. h (suc p)) (λ p. l (suc p))
    ∙ ap₂ (xor_from n) (sym (half (a 0) x (h 0))) (sym (half (b 0) y (l 0))))

pub bit_gathered : (b : ℕ → ℕ) (n p : ℕ) → ((p : ℕ) → b p < 2) → p < n → bit p (gathered b n) ≡ b p
unfolding gathered
bit_gathered b zero p h l = absurd (omega arith)
bit_gathered b (suc n) zero h l = bit_none (b 0 + 2 * gathered (λ p. b (suc p)) n) ∙ omega (arith, h 0)
bit_gathered b (suc n) (suc p) h l =
    let x = gathered (λ p. b (suc p)) n in
    bit_suc p (b 0 + 2 * x) ∙ ap (bit p) (half (b 0) x (h 0)) ∙ bit_gathered (λ p. b (suc p)) n p (λ p. h (suc p)) (omega arith)

pub eight : (P : ℕ → Type 0) → P 0 → P 1 → P 2 → P 3 → P 4 → P 5 → P 6 → P 7 → (p : ℕ) → p < 8 → P p
eight P a b c d e f g h zero l = a
eight P a b c d e f g h (suc zero) l = b
eight P a b c d e f g h (suc (suc zero)) l = c
eight P a b c d e f g h (suc (suc (suc zero))) l = d
eight P a b c d e f g h (suc (suc (suc (suc zero)))) l = e
eight P a b c d e f g h (suc (suc (suc (suc (suc zero))))) l = f
eight P a b c d e f g h (suc (suc (suc (suc (suc (suc zero)))))) l = g
eight P a b c d e f g h (suc (suc (suc (suc (suc (suc (suc zero))))))) l = h
eight P a b c d e f g h (suc (suc (suc (suc (suc (suc (suc (suc p)))))))) l = absurd (omega arith)
