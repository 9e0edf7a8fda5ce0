-- Laws of xor_from: by recursion on the number of bits. Assumes nothing.
use mathlib.Core.Path.{◌≡◌, refl, sym, ap, ap₂, ◌∙◌}
use Prim.Native.Nat.{ℕ, zero, suc, ◌+◌, ◌*◌, ◌/◌, ◌%◌, ◌^◌, ◌<◌}
use native.Mathlib.Nat.{add_comm, add_assoc, mul_comm, add-mod, mod-add-mod, add-mod-mod}
use native.Mathlib.Omega.{arith}
use lib.Bits
use lib.Bits.{bit_xor, differ}
use Rattle.field.specs.Field.{xor_from}

pub xor_half : (k a b : ℕ) → xor_from (suc k) a b / 2 ≡ xor_from k (a / 2) (b / 2)
unfolding xor_from
xor_half k a b = omega arith

pub xor_bit : (k a b : ℕ) → xor_from (suc k) a b % 2 ≡ (a + b) % 2
unfolding xor_from
xor_bit k a b = omega arith

xor_step : (k a b : ℕ) → xor_from (suc k) a b ≡ (a + b) % 2 + 2 * xor_from k (a / 2) (b / 2)
unfolding xor_from
xor_step k a b = refl

pub xor_comm : (k a b : ℕ) → xor_from k a b ≡ xor_from k b a
unfolding xor_from
xor_comm zero a b = refl
xor_comm (suc k) a b = omega (arith, xor_comm k (a / 2) (b / 2))

bits : (x y a b c : ℕ) → x % 2 ≡ (a + b) % 2 → y % 2 ≡ (b + c) % 2 → (x + c) % 2 ≡ (a + y) % 2
bits x y a b c p q =
    sym (mod-add-mod x 2 c) ∙ ap (λ n. (n + c) % 2) p ∙ mod-add-mod (a + b) 2 c ∙ ap (λ n. n % 2) (add_assoc a b c)
    ∙ sym (add-mod-mod a (b + c) 2) ∙ ap (λ n. (a + n) % 2) (sym q) ∙ add-mod-mod a y 2

pub xor_assoc : (k a b c : ℕ) → xor_from k (xor_from k a b) c ≡ xor_from k a (xor_from k b c)
xor_assoc zero a b c = unfold xor_from in refl
xor_assoc (suc k) a b c =
    rw (xor_step k (xor_from (suc k) a b) c, xor_step k a (xor_from (suc k) b c), xor_half k a b, xor_half k b c)
    (ap₂ (λ u v. u + 2 * v) (bits (xor_from (suc k) a b) (xor_from (suc k) b c) a b c (xor_bit k a b) (xor_bit k b c)) (xor_assoc k (a / 2) (b / 2) (c / 2)))

pub xor_self : (k a : ℕ) → xor_from k a a ≡ 0
unfolding xor_from
xor_self zero a = refl
xor_self (suc k) a = omega (arith, xor_self k (a / 2))

pub xor_below : (k a b : ℕ) → xor_from k a b < 2 ^ k
unfolding xor_from
xor_below zero a b = omega arith
xor_below (suc k) a b = omega (arith, xor_below k (a / 2) (b / 2))

pub xor_zero : (k a : ℕ) → a < 2 ^ k → xor_from k a 0 ≡ a
unfolding xor_from
xor_zero zero a h = omega arith
xor_zero (suc k) a h = omega (arith, xor_zero k (a / 2) (omega arith))

-- it is the language's xor, on numbers of k bits
one_bit : (x y : ℕ) → x < 2 → y < 2 → differ x y ≡ (x + y) % 2
one_bit zero zero h l = refl
one_bit zero (suc zero) h l = refl
one_bit zero (suc (suc y)) h l = absurd (omega arith)
one_bit (suc zero) zero h l = refl
one_bit (suc zero) (suc zero) h l = refl
one_bit (suc zero) (suc (suc y)) h l = absurd (omega arith)
one_bit (suc (suc x)) y h l = absurd (omega arith)

pub xor_is : (k a b : ℕ) → a < 2 ^ k → b < 2 ^ k → bit_xor a b ≡ xor_from k a b
xor_is zero a b h l =
    let p : a ≡ 0 = omega arith in
    let s : b ≡ 0 = omega arith in
    ap₂ bit_xor p s ∙ (unfold xor_from in refl)
xor_is (suc k) a b h l =
    let i = xor_is k (a / 2) (b / 2) (omega arith) (omega arith) in
    let d : differ (a % 2) (b % 2) ≡ (a + b) % 2 = one_bit (a % 2) (b % 2) (omega arith) (omega arith) ∙ sym (add-mod a b 2) in
    Bits.xor_step a b ∙ ap₂ (λ u v. u * 2 + v) i d ∙ add_comm (xor_from k (a / 2) (b / 2) * 2) ((a + b) % 2)
    ∙ ap (λ n. (a + b) % 2 + n) (mul_comm (xor_from k (a / 2) (b / 2)) 2) ∙ sym (xor_step k a b)
