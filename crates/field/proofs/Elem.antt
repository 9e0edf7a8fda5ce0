-- The numbers below q as a field: both fields are instances of the abstract one. Assumes nothing.
--   Elem f, ring_of f, field_of f    the elements, and their ring and field
--   el f n                           a number as an element: itself where it is below q
--   zero_below, el_zero, zero_of     0 as an element, and back
--   one_not_zero, minus_one_is       1 and -1
--   times_zero, zero_times, zero_plus, plus_times_zero, one_times    0 and 1 on numbers
--   gen f                            the generator γ
--   pow_is, power_below, gen_whole   powers
use mathlib.Core.Path.{◌≡◌, refl, sym, ap, ◌∙◌}
use mathlib.Core.Logic.{◌≢◌}
use mathlib.Core.HLevel.{Σ_prop_path, Σ_prop_discrete}
use Prim.Native.Nat.{ℕ, zero, suc, ◌-◌, ◌<◌}
use native.Mathlib.Nat.{mul_comm}
use native.Mathlib.Bridge.{le_prop}
use native.Mathlib.Decide.{ℕ_discrete}
use native.Mathlib.Omega.{arith}
use Rattle.field.specs.Field.{q, γ, plus, minus, times, power, inverse}
use Rattle.algebra.specs.Ring.{Ring, Field, pow}
use Rattle.algebra.proofs.Ring.{pow_mul, pow_unit, mul_nil, nil_mul, nil_add, unit_mul}
use Rattle.field.proofs.Generator.{last_test, power_of}
use Rattle.field.proofs.Laws.{laws}

abbrev pub Elem : ℕ → Type 0
Elem f = (a : ℕ) × (a < q f)

pub same : (f : ℕ) (x y : Elem f) → x.0 ≡ y.0 → x ≡ y
same f x y p = Σ_prop_path (λ (k : ℕ). le_prop {n = suc k} {m = q f}) {u = x} {v = y} p

abbrev pub ring_of : (f : ℕ) → Ring
ring_of f =
    let L = laws f in
    record {
      El = Elem f;
      dec = Σ_prop_discrete (λ (k : ℕ). le_prop {n = suc k} {m = q f}) ℕ_discrete;
      nil = (0, omega (arith, L.two_below));
      unit = (1, omega (arith, L.two_below));
      add = λ a b. (plus f a.0 b.0, L.plus_below a.0 b.0);
      sub = λ a b. (minus f a.0 b.0, L.minus_below a.0 b.0);
      mul = λ a b. (times f a.0 b.0, L.times_below a.0 b.0);
      add_comm = λ a b. same f _ _ (L.plus_comm a.0 b.0);
      add_assoc = λ a b c. same f _ _ (L.plus_assoc a.0 b.0 c.0);
      add_nil = λ a. same f _ _ (L.plus_zero a.0 a.1);
      sub_add = λ a b. same f _ _ (L.minus_plus a.0 b.0 a.1 b.1);
      mul_comm = λ a b. same f _ _ (L.times_comm a.0 b.0 a.1 b.1);
      mul_assoc = λ a b c. same f _ _ (L.times_assoc a.0 b.0 c.0 a.1 b.1 c.1);
      mul_unit = λ a. same f _ _ (L.times_one a.0 a.1);
      mul_add = λ a b c. same f _ _ (L.times_plus a.0 b.0 c.0 a.1 b.1 c.1);
    }

module _ (f : ℕ) where
  open ring_of f use {El, nil as 𝟘, unit as 𝟙, add as ◌⊕◌, sub as ◌⊖◌, mul as ◌⊗◌}

  infixl 70 ◌⊗◌
  pub pow_is : (x : Elem f) (e : ℕ) → (pow (ring_of f) x e).0 ≡ power f x.0 e
  unfolding pow power
  pow_is x zero = refl
  pow_is x (suc e) = ap (λ n. times f x.0 n) (pow_is x e)

  pub power_below : (a e : ℕ) → a < q f → power f a e < q f
  power_below a e h = rw (← pow_is (a, h) e) (pow (ring_of f) (a, h) e).1

  pub gamma_below : γ < q f
  unfolding γ
  gamma_below = (laws f).two_below

  -- the generator
  unfoldable pub gen : Elem f
  gen = (γ, gamma_below)

  pub gen_whole : pow (ring_of f) gen (q f - 1) ≡ 𝟙
  unfolding gen
  gen_whole = same f _ _ (pow_is gen (q f - 1) ∙ last_test f)

  pub inverse_below : (a : ℕ) → a < q f → inverse f a < q f
  unfolding inverse
  inverse_below a h = power_below a (q f - 2) h

  unfoldable pub inv : Elem f → Elem f
  inv x = (inverse f x.0, inverse_below x.0 x.1)

  inv_is : (x : Elem f) → inv x ≡ pow (ring_of f) x (q f - 2)
  unfolding inv inverse
  inv_is x = same f _ _ (sym (pow_is x (q f - 2)))

  pow_all : (x : Elem f) → x ≢ 𝟘 → pow (ring_of f) x (q f - 1) ≡ 𝟙
  unfolding gen
  pow_all x h =
      let i = power_of f x.0 x.1 (λ e. h (same f x 𝟘 e)) in
      let p : x ≡ pow (ring_of f) gen i.0 = same f _ _ (sym (pow_is gen i.0 ∙ i.1)) in
      rw p (pow_mul (ring_of f) gen i.0 (q f - 1) ∙ ap (λ n. pow (ring_of f) gen n) (mul_comm i.0 (q f - 1))
      ∙ sym (pow_mul (ring_of f) gen (q f - 1) i.0) ∙ ap (λ y. pow (ring_of f) y i.0) gen_whole ∙ pow_unit (ring_of f) i.0)

  pub mul_inv : (x : Elem f) → x ≢ 𝟘 → x ⊗ inv x ≡ 𝟙
  unfolding pow
  mul_inv x h =
      ap (λ y. x ⊗ y) (inv_is x) ∙ ap (λ n. pow (ring_of f) x n) n ∙ pow_all x h
    where
      n : suc (q f - 2) ≡ q f - 1
      n = omega (arith, (laws f).two_below)

  -- a number as an element
  pub el : ℕ → Elem f
  el n = (plus f n 0, (laws f).plus_below n 0)

  pub el_is : (n : ℕ) → n < q f → (el n).0 ≡ n
  unfolding el
  el_is n h = (laws f).plus_zero n h

  pub el_val : (x : Elem f) → el x.0 ≡ x
  el_val x = same f _ _ (el_is x.0 x.1)

  pub zero_below : 0 < q f
  zero_below = omega (arith, (laws f).two_below)

  pub el_zero : el 0 ≡ 𝟘
  el_zero = same f _ _ (el_is 0 zero_below)

  pub zero_of : (n : ℕ) → n < q f → el n ≡ 𝟘 → n ≡ 0
  zero_of n h e = sym (el_is n h) ∙ ap (λ x. x.0) e

  pub one_not_zero : 𝟙 ≢ 𝟘
  one_not_zero e = let z : ◌≡◌ {A = ℕ} 1 0 = ap (λ x. x.0) e in omega arith

  pub minus_one_is : el (minus f 0 1) ≡ (ring_of f).sub 𝟘 𝟙
  minus_one_is = same f _ _ (el_is (minus f 0 1) ((laws f).minus_below 0 1))

  -- 0 and 1 on numbers
  pub times_zero : (k : ℕ) → k < q f → times f k 0 ≡ 0
  times_zero k h = ap (λ x. x.0) (mul_nil (ring_of f) (k, h))

  pub zero_times : (k : ℕ) → k < q f → times f 0 k ≡ 0
  zero_times k h = ap (λ x. x.0) (nil_mul (ring_of f) (k, h))

  pub zero_plus : (a : ℕ) → a < q f → plus f 0 a ≡ a
  zero_plus a h = ap (λ x. x.0) (nil_add (ring_of f) (a, h))

  pub plus_times_zero : (a k : ℕ) → a < q f → k < q f → plus f a (times f k 0) ≡ a
  plus_times_zero a k h l = ap (plus f a) (times_zero k l) ∙ (laws f).plus_zero a h

  pub one_times : (a : ℕ) → a < q f → times f 1 a ≡ a
  one_times a h = ap (λ x. x.0) (unit_mul (ring_of f) (a, h))

  abbrev pub field_of : Field
  field_of = record { ring = ring_of f; inv = inv; mul_inv = mul_inv }
