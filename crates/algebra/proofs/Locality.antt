-- Exponents m / r * g + m % r for groups of g points with locality r. Assumes nothing.
--   raised r g m       == that exponent
--   raised_is          it is m + t * (m / r) where g is r + t
--   raised_injective, raised_monotone
use mathlib.Core.Path.{◌≡◌, sym, ap, ap₂, ◌∙◌}
use Prim.Native.Nat.{ℕ, ◌+◌, ◌*◌, ◌/◌, ◌%◌, ◌≤◌, ◌<◌}
use native.Mathlib.Nat.{div-add-mod', mod-lt, mul_comm as mul-comm-ℕ, le-div_iff_mul-le, div-mul-le_self, mul-le-mul_left, mul-add as mul-add-ℕ}
use native.Mathlib.Omega.{arith}
use lib.Arith.{digits_div, digits_mod}

unfoldable pub raised : (r g m : ℕ) → ℕ
raised r g m = m / r * g + m % r

pub raised_is : (r t m : ℕ) → raised r (r + t) m ≡ m + t * (m / r)
unfolding raised
raised_is r t m = omega (arith, div-add-mod' m r, mul-add-ℕ (m / r) r t, mul-comm-ℕ (m / r) t)

div_monotone : {r i j : ℕ} → 1 ≤ r → i ≤ j → i / r ≤ j / r
div_monotone {r} {i} {j} h l = (le-div_iff_mul-le {k = r} {x = i / r} {y = j} h).1 (omega (arith, div-mul-le_self i r))

pub raised_monotone : (r t : ℕ) → 1 ≤ r → (i j : ℕ) → i ≤ j → raised r (r + t) i ≤ raised r (r + t) j
raised_monotone r t h i j l = omega (arith, raised_is r t i, raised_is r t j, mul-le-mul_left t (div_monotone h l))

pub raised_injective : (r g : ℕ) → 1 ≤ r → r ≤ g → (i j : ℕ) → raised r g i ≡ raised r g j → i ≡ j
unfolding raised
raised_injective r g h l i j e =
    sym (div-add-mod' i r) ∙ ap₂ (λ a b. a * r + b) d m ∙ div-add-mod' j r
  where
    low : (n : ℕ) → n % r < g
    low n = omega (arith, mod-lt n h)

    d : i / r ≡ j / r
    d = sym (digits_div (i / r) (low i)) ∙ ap (λ n. n / g) e ∙ digits_div (j / r) (low j)

    m : i % r ≡ j % r
    m = sym (digits_mod (i / r) (low i)) ∙ ap (λ n. n % g) e ∙ digits_mod (j / r) (low j)
