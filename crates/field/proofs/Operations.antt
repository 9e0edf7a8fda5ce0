-- The machine's operations on symbols are the field's; products and inverses over bytes by logarithms. Assumes nothing.
--   q_13, q_256                        how many elements
--   plus_13, minus_13, times_13        field 0
--   plus_256, minus_256                any other
--   times_nil_left, times_nil_right, times_logs, inverse_nil, inverse_log
use mathlib.Core.Path.{◌≡◌, refl, sym, ap, ap₂, ◌∙◌}
use mathlib.Core.Logic.{◌≢◌}
use Prim.Native.Nat.{ℕ, zero, suc, ◌+◌, ◌*◌, ◌-◌, ◌/◌, ◌%◌, ◌≤◌, ◌<◌}
use native.Mathlib.Nat.{div-add-mod', mul_comm, mul-le-mul_left, mod-lt}
use native.Mathlib.Omega.{arith}
use lib.Dec.{lit<}
use lib.Bits.{bit_xor}
use Rattle.algebra.specs.Ring.{pow}
use Rattle.algebra.proofs.Ring.{pow_add, pow_mul, pow_unit}
use Rattle.field.specs.Field.{q, γ, plus, minus, times, power, inverse, xor_from, times_from, doubled}
use Rattle.field.proofs.Xor.{xor_is}
use Rattle.field.proofs.Laws.{laws}
use Rattle.field.proofs.Elem.{ring_of, pow_is, gen, gen_whole, power_below, gamma_below, times_zero, zero_times}

pub q_13 : (f : ℕ) → f ≡ 0 → 13 ≡ q f
unfolding q
q_13 f e = rw e refl

pub q_256 : (f : ℕ) → f ≢ 0 → 256 ≡ q f
unfolding q
q_256 zero n = absurd (n refl)
q_256 (suc f) n = refl

pub plus_13 : (f a b : ℕ) → f ≡ 0 → (a + b) % 13 ≡ plus f a b
unfolding plus
plus_13 f a b e = rw e refl

pub minus_13 : (f a b : ℕ) → f ≡ 0 → (a + (13 - b % 13)) % 13 ≡ minus f a b
unfolding minus
minus_13 f a b e = rw e refl

pub times_13 : (f a b : ℕ) → f ≡ 0 → a * b % 13 ≡ times f a b
unfolding times
times_13 f a b e = rw e refl

pub plus_256 : (f a b : ℕ) → f ≢ 0 → a < 256 → b < 256 → bit_xor a b ≡ plus f a b
unfolding plus
plus_256 zero a b n h l = absurd (n refl)
plus_256 (suc f) a b n h l = xor_is 8 a b h l

pub minus_256 : (f a b : ℕ) → f ≢ 0 → a < 256 → b < 256 → bit_xor a b ≡ minus f a b
unfolding minus
minus_256 zero a b n h l = absurd (n refl)
minus_256 (suc f) a b n h l = xor_is 8 a b h l

-- every field but 0 is that of bytes
pub times_256 : (f a b : ℕ) → f ≢ 0 → times f a b ≡ times 1 a b
unfolding times
times_256 zero a b n = absurd (n refl)
times_256 (suc f) a b n = refl

pub power_256 : (f a e : ℕ) → f ≢ 0 → power f a e ≡ power 1 a e
unfolding power
power_256 f a zero n = refl
power_256 f a (suc e) n = times_256 f a (power f a e) n ∙ ap (times 1 a) (power_256 f a e n)

-- powers of γ as elements
module _ (f : ℕ) where
  gen_pow : (e : ℕ) → (pow (ring_of f) (gen f) e).0 ≡ power f γ e
  unfolding gen
  gen_pow e = pow_is f (gen f) e

  pub power_add : (i j : ℕ) → times f (power f γ i) (power f γ j) ≡ power f γ (i + j)
  power_add i j =
      ap₂ (times f) (sym (gen_pow i)) (sym (gen_pow j)) ∙ ap (λ x. x.0) (sym (pow_add (ring_of f) (gen f) i j)) ∙ gen_pow (i + j)

  pub power_mod : (e : ℕ) → power f γ (e % (q f - 1)) ≡ power f γ e
  power_mod e =
      let R = ring_of f in let w = q f - 1 in
      sym (ap (λ n. power f γ n) (sym (div-add-mod' e w)) ∙ sym (power_add (e / w * w) (e % w))
      ∙ ap (λ x. times f x (power f γ (e % w)))
      (sym (gen_pow (e / w * w))
      ∙ ap (λ x. x.0)
      (ap (λ n. pow R (gen f) n) (mul_comm (e / w) w) ∙ sym (pow_mul R (gen f) w (e / w)) ∙ ap (λ x. pow R x (e / w)) (gen_whole f) ∙ pow_unit R (e / w)))
      ∙ (laws f).times_comm 1 (power f γ (e % w)) (omega (arith, (laws f).two_below)) (power_below f γ (e % w) (gamma_below f))
      ∙ (laws f).times_one (power f γ (e % w)) (power_below f γ (e % w) (gamma_below f)))

pub times_nil_left : (f a b : ℕ) → f ≢ 0 → b < 256 → a ≡ 0 → 0 ≡ times f a b
times_nil_left f a b n h e = rw e (sym (zero_times f b (rw (← q_256 f n) h)))

pub times_nil_right : (f a b : ℕ) → f ≢ 0 → a < 256 → b ≡ 0 → 0 ≡ times f a b
times_nil_right f a b n h e = rw e (sym (times_zero f a (rw (← q_256 f n) h)))

pub times_logs : (f a b i j : ℕ) → f ≢ 0 → power 1 γ i ≡ a → power 1 γ j ≡ b → power 1 γ ((i + j) % 255) ≡ times f a b
times_logs f a b i j n p s =
    let m : power 1 γ ((i + j) % 255) ≡ power 1 γ (i + j) = unfold q in power_mod 1 (i + j) in
    m ∙ sym (power_add 1 i j) ∙ ap₂ (times 1) p s ∙ sym (times_256 f a b n)

-- 1 / a has the logarithm 255 less that of a
pub inverse_log : (f a i : ℕ) → f ≢ 0 → i < 255 → power 1 γ i ≡ a → power 1 γ ((255 - i) % 255) ≡ inverse f a
inverse_log f a i n h p =
    ap (power 1 γ) r ∙ wrap (i * 254)
    ∙ sym (gen_pow 1 (i * 254)) ∙ ap (λ x. x.0) (sym (pow_mul (ring_of 1) (gen 1) i 254)) ∙ pow_is 1 (pow (ring_of 1) (gen 1) i) 254
    ∙ ap (λ x. power 1 x 254) (gen_pow 1 i ∙ p) ∙ sym (power_256 f a 254 n) ∙ last f n
  where
    r : (255 - i) % 255 ≡ i * 254 % 255
    r = omega arith

    wrap : (e : ℕ) → power 1 γ (e % 255) ≡ power 1 γ e
    wrap e = unfold q in power_mod 1 e

    last : (f : ℕ) → f ≢ 0 → power f a 254 ≡ inverse f a
    last zero n = absurd (n refl)
    last (suc f) n = unfold inverse q in refl

-- two bytes' product fits
pub product_below : (a b : ℕ) → a < 256 → b < 256 → a * b < 65536
product_below a b h l = let m : b ≤ 255 = omega arith in omega (arith, mul-le-mul_left a m)

-- a logarithm, reduced, is a place of the table of powers
pub reduced_below : (n : ℕ) → n % 255 < q 1 - 1
unfolding q
reduced_below n = mod-lt n (lit< tt)

pub inverse_13 : (f a : ℕ) → f ≡ 0 → power f a 11 ≡ inverse f a
unfolding inverse q
inverse_13 f a e = rw e refl

pub inverse_nil : (f a : ℕ) → f ≢ 0 → a ≡ 0 → 0 ≡ inverse f a
inverse_nil zero a n e = absurd (n refl)
inverse_nil (suc f) a n e = rw e (unfold inverse q power times times_from xor_from doubled in refl)
