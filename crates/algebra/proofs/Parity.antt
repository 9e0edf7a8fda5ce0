-- Parity checks of polynomials' values: points that are a geometric progression around a cycle. Assumes nothing.
--   cycle_sum    terms of which each is u times the one before, around a cycle, add to 0 where u is not 1
--   parity       if the powers 1 to n - 1 of n points add to 0, so does point times value of a polynomial with n - 1 coefficients
--   dot_none     a sum of products with values that are 0
--   dot_two      a sum of products that has two terms
use mathlib.Core.Path.{◌≡◌, refl, sym, ap, ap₂, ◌∙◌}
use mathlib.Core.Logic.{◌≢◌}
use mathlib.Core.List.{List, [], ◌∷◌}
use Prim.Native.Nat.{ℕ, zero, suc, ◌+◌, ◌≤◌, ◌<◌}
use native.Mathlib.Decide.{ℕ_discrete}
use native.Mathlib.Omega.{arith}
use lib.ListN.{length}
use Rattle.algebra.specs.Ring.{Ring, Field, pow}
use Rattle.algebra.specs.Polynomial.{eval, Poly}
use Rattle.algebra.specs.Equations.{dot}
use Rattle.algebra.proofs.Ring.{nil_add, unit_mul, add_cancel, mul_nil, nil_mul, mul_left_comm, add_interchange, same_multiple}
use Rattle.algebra.proofs.Equations.{dot_cong, dot_nil, dot_front, dot_add, dot_swap, update, update_same, update_other}

module _ (R : Ring) where
  open R use {El, nil as 𝟘, unit as 𝟙, add as ◌⊕◌, mul as ◌⊗◌, add_nil, mul_assoc, mul_unit, mul_add}

  infixl 60 ◌⊕◌
  infixl 70 ◌⊗◌
  dot_sum : (l : ℕ) (a b d y w z : ℕ → El) → ((m : ℕ) → a m ⊗ y m ≡ b m ⊗ w m ⊕ d m ⊗ z m) → dot R l a y ≡ dot R l b w ⊕ dot R l d z
  unfolding dot
  dot_sum zero a b d y w z h = sym (add_nil 𝟘)
  dot_sum (suc l) a b d y w z h =
      ap₂ ◌⊕◌ (dot_sum l a b d y w z h) (h l) ∙ add_interchange R (dot R l b w) (dot R l d z) (b l ⊗ w l) (d l ⊗ z l)

  -- no value but 0
  pub dot_none : (l : ℕ) (a y : ℕ → El) → ((m : ℕ) → m < l → y m ≡ 𝟘) → dot R l a y ≡ 𝟘
  dot_none l a y h =
      dot_cong R l a (λ _. 𝟘) y y (λ m n. ap (λ x. a m ⊗ x) (h m n) ∙ mul_nil R (a m) ∙ sym (nil_mul R (y m)))
      ∙ dot_nil R l (λ _. 𝟘) y (λ m n. refl)

  dot_one : (l j : ℕ) (a y : ℕ → El) → j < l → ((m : ℕ) → m < l → m ≢ j → y m ≡ 𝟘) → dot R l a y ≡ a j ⊗ y j
  dot_one l j a y b h =
      sym (add_nil (dot R l a y)) ∙ ap (λ n. dot R l a y ⊕ n) (sym (mul_nil R (a j)))
      ∙ dot_swap R l j a y (λ _. 𝟘) b (λ m n d. ap (λ x. a m ⊗ x) (h m n d))
      ∙ ap (λ n. n ⊕ a j ⊗ y j) (dot_none l a (λ _. 𝟘) (λ m n. refl)) ∙ nil_add R (a j ⊗ y j)

  pub dot_two : (l i j : ℕ) (a y : ℕ → El) → i < l → j < l → i ≢ j → ((m : ℕ) → m < l → m ≢ i → m ≢ j → y m ≡ 𝟘)
      → dot R l a y ≡ a i ⊗ y i ⊕ a j ⊗ y j
  dot_two l i j a y b d n h =
      sym (add_nil (dot R l a y)) ∙ ap (λ x. dot R l a y ⊕ x) (sym (ap (λ x. a j ⊗ x) (update_same R l y j 𝟘) ∙ mul_nil R (a j)))
      ∙ dot_swap R l j a y (update R l y j 𝟘) d (λ m p q. ap (λ x. a m ⊗ x) (sym (update_other R l y j 𝟘 m q)))
      ∙ ap (λ x. x ⊕ a j ⊗ y j) (dot_one l i a (update R l y j 𝟘) b rest ∙ ap (λ x. a i ⊗ x) (update_other R l y j 𝟘 i n))
    where
      rest : (m : ℕ) → m < l → m ≢ i → update R l y j 𝟘 m ≡ 𝟘
      rest m p q = go (ℕ_discrete m j)
        where
          go : Dec (m ≡ j) → update R l y j 𝟘 m ≡ 𝟘
          go (yes e) = ap (update R l y j 𝟘) e ∙ update_same R l y j 𝟘
          go (no e) = update_other R l y j 𝟘 m e ∙ h m p q e

  -- n points whose powers 1 to n - 1 add to 0
  module _ (n : ℕ) (pt : ℕ → El) (sums : (e : ℕ) → 1 ≤ e → e < n → (c : El) → dot R n (λ i. pow R (pt i) e) (λ _. c) ≡ 𝟘) where
    spread : (x p c v : El) → p ⊗ (c ⊕ x ⊗ v) ≡ p ⊗ c ⊕ x ⊗ p ⊗ v
    spread x p c v = mul_add p c (x ⊗ v) ∙ ap (λ n. p ⊗ c ⊕ n) (mul_left_comm R p x v ∙ sym (mul_assoc x p v))

    sums_eval : (cs : List El) (e : ℕ) → 1 ≤ e → e + length cs ≤ n → dot R n (λ i. pow R (pt i) e) (λ i. eval R cs (pt i)) ≡ 𝟘
    unfolding eval pow
    sums_eval [] e h l = dot_none n (λ i. pow R (pt i) e) (λ _. 𝟘) (λ m b. refl)
    sums_eval (c ∷ cs) e h l =
        dot_sum n (λ i. pow R (pt i) e) (λ i. pow R (pt i) e) (λ i. pow R (pt i) (suc e)) (λ i. eval R (c ∷ cs) (pt i)) (λ _. c) (λ i. eval R cs (pt i))
        (λ m. spread (pt m) (pow R (pt m) e) c (eval R cs (pt m)))
        ∙ ap₂ ◌⊕◌ (sums e h (omega arith) c) (sums_eval cs (suc e) (omega arith) (omega arith)) ∙ add_nil 𝟘

    pub parity : (k : ℕ) {g : El → El} → k < n → Poly R k g → dot R n pt (λ i. g (pt i)) ≡ 𝟘
    unfolding pow
    parity k {g} h p =
        dot_cong R n pt (λ i. pow R (pt i) 1) (λ i. g (pt i)) (λ i. eval R p.coefs (pt i))
        (λ m b. ap₂ ◌⊗◌ (sym (mul_unit (pt m))) (p.is (pt m)))
        ∙ sums_eval p.coefs 1 (omega arith) (omega (arith, p.few))

module _ (F : Field) where
  open F use {ring}
  open F.ring use {El, nil as 𝟘, unit as 𝟙, add as ◌⊕◌, mul as ◌⊗◌, add_comm}

  infixl 60 ◌⊕◌
  infixl 70 ◌⊗◌
  module _ (n : ℕ) (u : El) (t : ℕ → El) (next : (i : ℕ) → t (suc i) ≡ u ⊗ t i) (c : El) where
    abbrev sum : El
    sum = dot ring n t (λ _. c)

    abbrev later : El
    later = dot ring n (λ i. t (suc i)) (λ _. c)

    later_is : later ≡ u ⊗ sum
    later_is =
        dot_add ring n u (λ _. 𝟘) t (λ i. t (suc i)) (λ _. c) (λ m b. next m ∙ sym (nil_add ring (u ⊗ t m)))
        ∙ ap (λ x. x ⊕ u ⊗ sum) (dot_nil ring n (λ _. 𝟘) (λ _. c) (λ m b. refl)) ∙ nil_add ring (u ⊗ sum)

    later_same : t n ≡ t 0 → later ≡ sum
    unfolding dot
    later_same z =
        add_cancel ring later sum (t 0 ⊗ c)
        (add_comm later (t 0 ⊗ c) ∙ sym (dot_front ring n t (λ _. c)) ∙ ap (λ x. sum ⊕ x ⊗ c) z)

    pub cycle_sum : u ≢ 𝟙 → t n ≡ t 0 → dot ring n t (λ _. c) ≡ 𝟘
    cycle_sum h z = same_multiple F u 𝟙 sum h (sym later_is ∙ later_same z ∙ sym (unit_mul ring sum))
