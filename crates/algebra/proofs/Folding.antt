-- Sums in blocks of r are polynomials with r coefficients: each the value at y of the polynomial of every r-th symbol. Where the power g of x
-- is y, the terms of a message at the exponents raised r g are such sums. Assumes nothing.
--   folded         so they are
--   terms_based    terms are such sums
use mathlib.Core.Path.{◌≡◌, refl, sym, ap, ap₂, ◌∙◌, subst}
use mathlib.Core.Logic.{◌≢◌}
use mathlib.Core.Bool.{cond}
use mathlib.Core.List.{List, [], ◌∷◌}
use Prim.Native.Nat.{ℕ, suc, ◌*◌, ◌/◌, ◌%◌, ◌≤◌, ◌<◌}
use native.Mathlib.Nat.{mod-lt, mul_comm as mul-comm-ℕ}
use native.Mathlib.Decide.{ℕ_discrete}
use borrow.Author.Tests.{eq-eqb, ne_eqb}
use Rattle.algebra.specs.Ring.{Ring, pow}
use Rattle.algebra.specs.Sequence.{tabulate}
use Rattle.algebra.specs.Strand.{strand}
use Rattle.algebra.specs.Polynomial.{eval}
use Rattle.algebra.proofs.Ring.{nil_add, mul_nil, unit_mul, pow_add, pow_mul}
use Rattle.algebra.proofs.Tabulate.{tabulate_same}
use Rattle.algebra.proofs.Monomials.{terms, spread, eval_spread}
use Rattle.algebra.proofs.Locality.{raised}
use Rattle.algebra.proofs.Based.{based}
use Rattle.algebra.proofs.Strands.{strand_own, strand_other, turns, turns_none, turns_own, turns_next, turns_other}

module _ (R : Ring) (r : ℕ) (r_least : 1 ≤ r) (y : R.El) where
  open R use {El, nil as 𝟘, add as ◌⊕◌, mul as ◌⊗◌, mul_comm, mul_assoc, mul_add}

  infixl 60 ◌⊕◌
  infixl 70 ◌⊗◌
  -- the symbols, each times the power of y of its block
  weighed : ℕ → List El → List El
  weighed m [] = []
  weighed m (s ∷ ss) = s ⊗ pow R y (m / r) ∷ weighed (suc m) ss

  place : ℕ → ℕ
  place m = m % r

  raised_pow : (g : ℕ) (x : El) → pow R x g ≡ y → (m : ℕ) → pow R x (raised r g m) ≡ pow R y (m / r) ⊗ pow R x (m % r)
  unfolding raised
  raised_pow g x e m =
      pow_add R x (m / r * g) (m % r)
      ∙ ap (λ n. n ⊗ pow R x (m % r)) (ap (λ n. pow R x n) (mul-comm-ℕ (m / r) g) ∙ sym (pow_mul R x g (m / r)) ∙ ap (λ n. pow R n (m / r)) e)

  pub terms_based : (d : ℕ → ℕ) (g : ℕ) (x : El) → ((m : ℕ) → d m ≡ raised r g m) → pow R x g ≡ y → (m : ℕ) (ss : List El)
      → terms R d x m ss ≡ based R r r_least y x m ss
  unfolding terms based
  terms_based d g x h e m [] = refl
  terms_based d g x h e m (s ∷ ss) =
      ap₂ ◌⊕◌ (ap (λ n. s ⊗ n) (ap (pow R x) (h m) ∙ raised_pow g x e m)) (terms_based d g x h e (suc m) ss)

  based_weighed : (x : El) (m : ℕ) (ss : List El) → based R r r_least y x m ss ≡ terms R place x m (weighed m ss)
  unfolding terms weighed place based
  based_weighed x m [] = refl
  based_weighed x m (s ∷ ss) =
      ap₂ ◌⊕◌ (sym (mul_assoc s (pow R y (m / r)) (pow R x (m % r)))) (based_weighed x (suc m) ss)

  regroup : (p s v : El) → s ⊗ p ⊕ (y ⊗ p) ⊗ v ≡ p ⊗ (s ⊕ y ⊗ v)
  regroup p s v = cc (mul_add p s (y ⊗ v), mul_comm p s, mul_assoc p y v, mul_comm p y)

  -- coefficient i from symbol m on: blocks count from its turn on
  abbrev Turned : (i m : ℕ) → List El → Type 0
  Turned i m ss = spread R place m (weighed m ss) i ≡ pow R y (turns r m i) ⊗ eval R (strand r i m ss) y

  turned_own : (m : ℕ) (s : El) (ss : List El) → Turned (m % r) (suc m) ss → Turned (m % r) m (s ∷ ss)
  unfolding spread weighed place eval pow
  turned_own m s ss d =
      let i : ℕ = m % r in
      let p = pow R y (m / r) in
      let v = eval R (strand r i (suc m) ss) y in
      ap₂ (λ b u. cond b (s ⊗ p) 𝟘 ⊕ u) (eq-eqb i i refl) (d ∙ ap (λ n. pow R y n ⊗ v) (turns_next r m r_least)) ∙ regroup p s v
      ∙ sym (ap₂ (λ n cs. pow R y n ⊗ eval R cs y) (turns_own r m r_least) (strand_own r m s ss))

  turned_other : (i m : ℕ) (s : El) (ss : List El) → i < r → i ≢ m % r → Turned i (suc m) ss → Turned i m (s ∷ ss)
  unfolding spread weighed place
  turned_other i m s ss h n d =
      let v = pow R y (turns r (suc m) i) ⊗ eval R (strand r i (suc m) ss) y in
      ap₂ (λ b u. cond b (s ⊗ pow R y (m / r)) 𝟘 ⊕ u) (ne_eqb (m % r) i (λ e. n (sym e))) d ∙ nil_add R v
      ∙ sym (ap₂ (λ n cs. pow R y n ⊗ eval R cs y) (sym (turns_other r m r_least i h n)) (strand_other r i m s ss n))

  turned : (i : ℕ) → i < r → (m : ℕ) (ss : List El) → Turned i m ss
  unfolding spread weighed strand eval
  turned i h m [] = sym (mul_nil R (pow R y (turns r m i)))
  turned i h m (s ∷ ss) = go (ℕ_discrete i (m % r)) (turned i h (suc m) ss)
    where
      go : Dec (i ≡ m % r) → Turned i (suc m) ss → Turned i m (s ∷ ss)
      go (yes e) d = subst (λ j. Turned j m (s ∷ ss)) (sym e) (turned_own m s ss (subst (λ j. Turned j (suc m) ss) e d))
      go (no n) d = turned_other i m s ss h n d

  pub folded : (x : El) (ss : List El) → based R r r_least y x 0 ss ≡ eval R (tabulate (λ i. eval R (strand r i 0 ss) y) r) x
  unfolding place tabulate pow
  folded x ss =
      based_weighed x 0 ss ∙ sym (eval_spread R place x r 0 (weighed 0 ss) (λ i a b. mod-lt i r_least))
      ∙ ap (λ cs. eval R cs x) (tabulate_same 𝟘 (spread R place 0 (weighed 0 ss)) (λ i. eval R (strand r i 0 ss) y) r
      (λ i b. turned i b 0 ss ∙ ap (λ n. pow R y n ⊗ eval R (strand r i 0 ss) y) (turns_none r i r_least) ∙ unit_mul R (eval R (strand r i 0 ss) y)))
