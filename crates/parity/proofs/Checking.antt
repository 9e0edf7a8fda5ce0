-- Which polynomials pass the checks whose terms are the product of X - y over some points y, times X to the power l. Assumes nothing.
-- There are d such points and r places; check l is the defect of the polynomial times term l.
--   terms ys l y           == the term of check l at y
--   low_passes             a polynomial with few enough coefficients passes
--   tops_zero              what passes the first c checks has no coefficient among the last c
--   some_fails             X to the power of the highest coefficient fails check 0
use mathlib.Core.Path.{◌≡◌, sym, ap, ap₂, ◌∙◌}
use mathlib.Core.Logic.{◌≢◌}
use mathlib.Core.List.{List}
use Prim.Native.Nat.{ℕ, zero, suc, ◌+◌, ◌-◌, ◌≤◌, ◌<◌}
use native.Mathlib.Decide.{ℕ_discrete}
use native.Mathlib.Omega.{arith}
use lib.ListN.{length}
use Rattle.algebra.specs.Ring.{Field, pow}
use Rattle.algebra.specs.Sequence.{Distinct, In}
use Rattle.algebra.specs.Polynomial.{Poly}
use Rattle.algebra.proofs.Ring.{nil_add, mul_left_comm, pow_add, no_divisors}
use Rattle.algebra.proofs.Polynomial.{poly_of, poly_more, poly_same}
use Rattle.algebra.proofs.Coefficients.{front, front_value, length_front, value_short}
use Rattle.algebra.proofs.Blocks.{vanish, poly_vanish, monic_vanish}
use Rattle.parity.proofs.Listed.{value_last, poly_raise}
use Rattle.parity.proofs.Defect.{defect, defect_poly, defect_add, defect_scale, defect_same, defect_monic}

module _ (F : Field) (pt : ℕ → F.ring.El) (os : List ℕ) (x : F.ring.El) (distinct : Distinct os)
    (differ : (i j : ℕ) → In i os → In j os → pt i ≡ pt j → i ≡ j) (ys : List F.ring.El) where
  open F use {ring}
  open F.ring use {El, nil as 𝟘, unit as 𝟙, add as ◌⊕◌, mul as ◌⊗◌, mul_comm, mul_assoc, mul_add}

  infixl 60 ◌⊕◌
  infixl 70 ◌⊗◌
  abbrev pub terms : ℕ → El → El
  terms l y = vanish ring ys y ⊗ pow ring y l

  -- coefficients c 0 to c (e - 1), times term l
  abbrev pub times_term : ℕ → (ℕ → El) → ℕ → El → El
  times_term l c e y = terms l y ⊗ front_value ring c e y

  term_poly : (l n : ℕ) {g : El → El} → Poly ring n g → length ys + (n + l) ≤ length os → Poly ring (length os) (λ y. terms l y ⊗ g y)
  term_poly l n {g} p h =
      poly_more ring (length ys + (n + l)) (length os) h
      (poly_same ring (length ys + (n + l)) (λ y. mul_assoc (vanish ring ys y) (pow ring y l) (g y)) (poly_vanish ring ys (n + l) (poly_raise ring n l p)))

  pub low_passes : (l n : ℕ) {g : El → El} → Poly ring n g → length ys + (n + l) ≤ length os → defect F pt os x (λ y. terms l y ⊗ g y) ≡ 𝟘
  low_passes l n {g} p h = defect_poly F pt os x distinct differ (λ y. terms l y ⊗ g y) (term_poly l n p h)

  front_poly : (c : ℕ → El) (e : ℕ) → Poly ring e (front_value ring c e)
  front_poly c e = rw (length_front ring c e) at (poly_of ring (front ring c e))

  -- the highest coefficient alone counts
  split_last : (a v q y t : El) → y ≡ v ⊕ a ⊗ q → t ⊗ y ≡ t ⊗ v ⊕ a ⊗ (t ⊗ q)
  split_last a v q y t e = ap (λ y. t ⊗ y) e ∙ mul_add t v (a ⊗ q) ∙ ap (λ z. t ⊗ v ⊕ z) (mul_left_comm ring t a q)

  raised : (l e : ℕ) (y : El) → terms l y ⊗ pow ring y e ≡ terms (l + e) y
  raised l e y = mul_assoc (vanish ring ys y) (pow ring y l) (pow ring y e) ∙ ap (λ z. vanish ring ys y ⊗ z) (sym (pow_add ring y l e))

  last_counts : (l e : ℕ) (c : ℕ → El) → length ys + (e + l) ≤ length os
      → defect F pt os x (times_term l c (suc e)) ≡ c e ⊗ defect F pt os x (terms (l + e))
  last_counts l e c h =
      let low : El → El = times_term l c e in
      let top : El → El = λ y. c e ⊗ terms (l + e) y in
      let each : (y : El) → times_term l c (suc e) y ≡ low y ⊕ top y
      = λ y. split_last (c e) (front_value ring c e y) (pow ring y e) (front_value ring c (suc e) y) (terms l y) (value_last ring c e y)
      ∙ ap (λ z. low y ⊕ c e ⊗ z) (raised l e y) in
      defect_same F pt os x (times_term l c (suc e)) (λ y. low y ⊕ top y) (λ m i. each (pt m)) (each x)
      ∙ defect_add F pt os x low top
      ∙ ap₂ ◌⊕◌ (low_passes l e (front_poly c e) h) (defect_scale F pt os x (c e) (terms (l + e)))
      ∙ nil_add ring (c e ⊗ defect F pt os x (terms (l + e)))

  module _ (apart : (m : ℕ) → In m os → pt m ≢ x) (one : 𝟙 ≢ 𝟘) where
    top_counts : (m : ℕ) → length ys + m ≡ length os → defect F pt os x (terms m) ≢ 𝟘
    top_counts m e = defect_monic F pt os x distinct differ apart one (terms m) (rw e at (monic_vanish ring ys m))

    pub some_fails : (e : ℕ) → length ys + e ≡ length os → defect F pt os x (λ y. terms 0 y ⊗ pow ring y e) ≢ 𝟘
    some_fails e h z =
        top_counts (0 + e) (omega arith)
        (sym (defect_same F pt os x (λ y. terms 0 y ⊗ pow ring y e) (terms (0 + e)) (λ m i. raised 0 e (pt m)) (raised 0 e x)) ∙ z)

    -- coefficient e, where check n passes and those above it are 0
    next_zero : (c : ℕ → El) (t n e : ℕ) → length ys + t ≡ suc (length os) → suc (e + n) ≡ t → ((m : ℕ) → suc e ≤ m → m < t → c m ≡ 𝟘)
        → defect F pt os x (times_term n c t) ≡ 𝟘 → c e ≡ 𝟘
    next_zero c t n e h d rest z =
        let shorter : (y : El) → times_term n c t y ≡ times_term n c (suc e) y
        = λ y. ap (λ z. terms n y ⊗ z) (value_short ring c (suc e) t y (omega arith) rest) in
        let k = defect F pt os x (terms (n + e)) in
        no_divisors F k (c e) (top_counts (n + e) (omega arith))
        (mul_comm k (c e) ∙ sym (last_counts n e c (omega arith))
        ∙ sym (defect_same F pt os x (times_term n c t) (times_term n c (suc e)) (λ m i. shorter (pt m)) (shorter x)) ∙ z)

    pub tops_zero : (c : ℕ → El) (t : ℕ) → length ys + t ≡ suc (length os) → (n : ℕ) → n ≤ t
        → ((l : ℕ) → l < n → defect F pt os x (times_term l c t) ≡ 𝟘) → (m : ℕ) → t - n ≤ m → m < t → c m ≡ 𝟘
    tops_zero c t h zero b z m a d = absurd (omega arith)
    tops_zero c t h (suc n) b z m a d = go (ℕ_discrete m (t - suc n)) (tops_zero c t h n (omega arith) (λ l g. z l (omega arith)))
      where
        go : Dec (m ≡ t - suc n) → ((m : ℕ) → t - n ≤ m → m < t → c m ≡ 𝟘) → c m ≡ 𝟘
        go (yes p) rest = next_zero c t n m h (omega arith) (λ m g l. rest m (omega arith) l) (z n (omega arith))
        go (no p) rest = rest m (omega arith) d
