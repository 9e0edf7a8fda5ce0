-- What follows from the laws of commutative rings and fields. Assumes nothing.
--   add_cancel, sub_self, eq_of_sub, sub_is, sub_add_of, mul_nil    one operation
--   add_mul, mul_sub, sub_mul, *-interchange            two
--   pow_add, pow_mul, pow_unit                          powers
--   no_divisors, pow_nonzero, same_multiple, root_is    fields
use mathlib.Core.Path.{◌≡◌, refl, sym, ap, ap₂, ◌∙◌}
use mathlib.Core.Logic.{◌≢◌}
use Prim.Native.Nat.{ℕ, zero, suc, ◌+◌, ◌*◌}
use native.Mathlib.Nat.{suc-add, zero-add, mul-zero, mul-suc}
use Rattle.algebra.specs.Ring.{Ring, Field, pow}

module _ (R : Ring) where
  open R use {El, nil as 𝟘, unit as 𝟙, add as ◌⊕◌, sub as ◌⊖◌, mul as ◌⊗◌, add_comm, add_assoc, add_nil, sub_add, mul_comm, mul_assoc, mul_unit, mul_add}

  infixl 60 ◌⊕◌
  infixl 60 ◌⊖◌
  infixl 70 ◌⊗◌
  pub nil_add : (a : El) → 𝟘 ⊕ a ≡ a
  nil_add a = add_comm 𝟘 a ∙ add_nil a

  pub add_left_comm : (a b c : El) → a ⊕ (b ⊕ c) ≡ b ⊕ (a ⊕ c)
  add_left_comm a b c = sym (add_assoc a b c) ∙ ap (λ n. n ⊕ c) (add_comm a b) ∙ add_assoc b a c

  pub mul_left_comm : (a b c : El) → a ⊗ (b ⊗ c) ≡ b ⊗ (a ⊗ c)
  mul_left_comm a b c = sym (mul_assoc a b c) ∙ ap (λ n. n ⊗ c) (mul_comm a b) ∙ mul_assoc b a c

  pub add_mul : (a b c : El) → (a ⊕ b) ⊗ c ≡ a ⊗ c ⊕ b ⊗ c
  add_mul a b c = mul_comm (a ⊕ b) c ∙ mul_add c a b ∙ ap₂ ◌⊕◌ (mul_comm c a) (mul_comm c b)

  pub unit_mul : (a : El) → 𝟙 ⊗ a ≡ a
  unit_mul a = mul_comm 𝟙 a ∙ mul_unit a

  back : (a c : El) → a ⊕ c ⊕ (𝟘 ⊖ c) ≡ a
  back a c = add_assoc a c (𝟘 ⊖ c) ∙ ap (λ n. a ⊕ n) (add_comm c (𝟘 ⊖ c) ∙ sub_add 𝟘 c) ∙ add_nil a

  pub add_cancel : (a b c : El) → a ⊕ c ≡ b ⊕ c → a ≡ b
  add_cancel a b c e = sym (back a c) ∙ ap (λ n. n ⊕ (𝟘 ⊖ c)) e ∙ back b c

  pub sub_self : (a : El) → a ⊖ a ≡ 𝟘
  sub_self a = add_cancel (a ⊖ a) 𝟘 a (sub_add a a ∙ sym (nil_add a))

  pub eq_of_sub : (a b : El) → a ⊖ b ≡ 𝟘 → a ≡ b
  eq_of_sub a b e = sym (sub_add a b) ∙ ap (λ n. n ⊕ b) e ∙ nil_add b

  pub sub_nil : (a : El) → a ⊖ 𝟘 ≡ a
  sub_nil a = sym (add_nil (a ⊖ 𝟘)) ∙ sub_add a 𝟘

  -- a difference is what with b makes a
  pub sub_is : (a b c : El) → c ⊕ b ≡ a → a ⊖ b ≡ c
  sub_is a b c e = add_cancel (a ⊖ b) c b (sub_add a b ∙ sym e)

  pub sub_add_of : (a c : El) → a ⊖ c ≡ a ⊕ (𝟘 ⊖ c)
  sub_add_of a c = sub_is a c (a ⊕ (𝟘 ⊖ c)) (add_assoc a (𝟘 ⊖ c) c ∙ ap (λ n. a ⊕ n) (sub_add 𝟘 c) ∙ add_nil a)

  pub mul_nil : (a : El) → a ⊗ 𝟘 ≡ 𝟘
  mul_nil a = add_cancel (a ⊗ 𝟘) 𝟘 (a ⊗ 𝟘) (sym (mul_add a 𝟘 𝟘) ∙ ap (λ n. a ⊗ n) (add_nil 𝟘) ∙ sym (nil_add (a ⊗ 𝟘)))

  pub nil_mul : (a : El) → 𝟘 ⊗ a ≡ 𝟘
  nil_mul a = mul_comm 𝟘 a ∙ mul_nil a

  pub sub_mul : (a b c : El) → (a ⊖ b) ⊗ c ⊕ b ⊗ c ≡ a ⊗ c
  sub_mul a b c = sym (add_mul (a ⊖ b) b c) ∙ ap (λ n. n ⊗ c) (sub_add a b)

  pub add_interchange : (a b c d : El) → (a ⊕ b) ⊕ (c ⊕ d) ≡ (a ⊕ c) ⊕ (b ⊕ d)
  add_interchange a b c d = simp (add_assoc, add_left_comm)

  pub sub_interchange : (a b c d : El) → (a ⊕ b) ⊖ (c ⊕ d) ≡ (a ⊖ c) ⊕ (b ⊖ d)
  sub_interchange a b c d =
      sub_is (a ⊕ b) (c ⊕ d) ((a ⊖ c) ⊕ (b ⊖ d)) (add_interchange (a ⊖ c) (b ⊖ d) c d ∙ ap₂ ◌⊕◌ (sub_add a c) (sub_add b d))

  pub mul_sub : (a b c : El) → a ⊗ (b ⊖ c) ≡ a ⊗ b ⊖ a ⊗ c
  mul_sub a b c = sym (sub_is (a ⊗ b) (a ⊗ c) (a ⊗ (b ⊖ c)) (sym (mul_add a (b ⊖ c) c) ∙ ap (λ n. a ⊗ n) (sub_add b c)))

  pub pow_add : (a : El) (m n : ℕ) → pow R a (m + n) ≡ pow R a m ⊗ pow R a n
  unfolding pow
  pow_add a zero n = rw zero-add (sym (unit_mul (pow R a n)))
  pow_add a (suc m) n = rw suc-add (ap (λ x. a ⊗ x) (pow_add a m n) ∙ sym (mul_assoc a (pow R a m) (pow R a n)))

  pub pow_mul : (a : El) (m n : ℕ) → pow R (pow R a m) n ≡ pow R a (m * n)
  unfolding pow
  pow_mul a m zero = rw mul-zero refl
  pow_mul a m (suc n) =
      rw mul-suc (ap (λ x. pow R a m ⊗ x) (pow_mul a m n) ∙ mul_comm (pow R a m) (pow R a (m * n)) ∙ sym (pow_add a (m * n) m))

  pub pow_unit : (n : ℕ) → pow R 𝟙 n ≡ 𝟙
  unfolding pow
  pow_unit zero = refl
  pow_unit (suc n) = unit_mul (pow R 𝟙 n) ∙ pow_unit n

module _ (F : Field) where
  open F.ring use {El, nil as 𝟘, unit as 𝟙, add as ◌⊕◌, sub as ◌⊖◌, mul as ◌⊗◌, mul_assoc, mul_comm}
  open F use {ring, inv, mul_inv}

  infixl 60 ◌⊕◌
  infixl 60 ◌⊖◌
  infixl 70 ◌⊗◌
  pub no_divisors : (a b : El) → a ≢ 𝟘 → a ⊗ b ≡ 𝟘 → b ≡ 𝟘
  no_divisors a b h e =
      sym (unit_mul ring b) ∙ ap (λ n. n ⊗ b) (sym (mul_inv a h) ∙ mul_comm a (inv a)) ∙ mul_assoc (inv a) a b
      ∙ ap (λ n. inv a ⊗ n) e ∙ mul_nil ring (inv a)

  pub pow_nonzero : (a : El) → 𝟙 ≢ 𝟘 → a ≢ 𝟘 → (e : ℕ) → pow ring a e ≢ 𝟘
  unfolding pow
  pow_nonzero a o h zero z = o z
  pow_nonzero a o h (suc e) z = pow_nonzero a o h e (no_divisors a (pow ring a e) h z)

  pub same_multiple : (x a e : El) → x ≢ a → x ⊗ e ≡ a ⊗ e → e ≡ 𝟘
  same_multiple x a e h p =
      no_divisors (x ⊖ a) e (λ z. h (eq_of_sub ring x a z))
      (add_cancel ring ((x ⊖ a) ⊗ e) 𝟘 (a ⊗ e) (sub_mul ring x a e ∙ p ∙ sym (nil_add ring (a ⊗ e))))

  -- the root of x w + y
  pub root_is : (x y w : El) → x ≢ 𝟘 → x ⊗ w ⊕ y ≡ 𝟘 → w ≡ 𝟘 ⊖ y ⊗ inv x
  root_is x y w h e =
      sym (sub_is ring 𝟘 (y ⊗ inv x) w
      (ap (λ n. n ⊕ y ⊗ inv x) (sym cleared) ∙ sym (add_mul ring (x ⊗ w) y (inv x)) ∙ ap (λ n. n ⊗ inv x) e ∙ nil_mul ring (inv x)))
    where
      cleared : x ⊗ w ⊗ inv x ≡ w
      cleared =
          mul_comm (x ⊗ w) (inv x) ∙ sym (mul_assoc (inv x) x w) ∙ ap (λ n. n ⊗ w) (mul_comm (inv x) x ∙ mul_inv x h) ∙ unit_mul ring w
