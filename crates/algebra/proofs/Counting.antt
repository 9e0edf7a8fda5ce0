-- How many numbers below a bound pass a test. Assumes nothing.
--   count_zero, count_yes, count_no    no number; one number more, that passes the test or not
--   count_none, count_all              where none passes, where all do
--   count_most                         no more than there are numbers
--   count_add, count_mono              the numbers below a, and b more
--   count_same, count_split            two tests that agree; two of which one holds everywhere
--   count_some, count_one              one that passes, and the only one
--   count_not                          those that pass, and those that do not
--   count_less, count_and              a test that passes wherever another does; at one number more
use mathlib.Core.Path.{◌≡◌, refl, sym, ap, ap₂, ◌∙◌}
use mathlib.Core.Logic.{◌≢◌}
use mathlib.Core.Bool.{Bool, true, false, cond, not, ◌||◌}
use Prim.Native.Nat.{ℕ, zero, suc, ◌+◌, ◌-◌, ◌≤◌, ◌<◌, zero-le}
use native.Mathlib.Nat.{add-zero, add-suc, le_refl, not-suc-le-zero}
use native.Mathlib.Decide.{ℕ_discrete, dec_lt}
use native.Mathlib.Numerals.{add-one}
use native.Mathlib.Omega.{arith}
use lib.Dec.{T}
use Rattle.algebra.specs.Sequence.{count}
use Rattle.algebra.proofs.Booleans.{yes_true, no_false, differ}

module _ (t : ℕ → Bool) where
  pub count_zero : count t 0 ≡ 0
  unfolding count
  count_zero = refl

  pub count_yes : (n : ℕ) → t n ≡ true → count t n + 1 ≡ count t (n + 1)
  unfolding count
  count_yes n e = rw (add-one n, e) (omega arith)

  pub count_no : (n : ℕ) → t n ≡ false → count t n ≡ count t (n + 1)
  unfolding count
  count_no n e = rw (add-one n, e) (omega arith)

  pub count_none : (n : ℕ) → ((i : ℕ) → i < n → t i ≡ false) → count t n ≡ 0
  unfolding count
  count_none zero h = refl
  count_none (suc n) h = rw (h n (le_refl (suc n))) (omega (arith, count_none n (λ i l. h i (omega arith))))

  pub count_add : (a b : ℕ) → count t (a + b) ≡ count (λ i. t (a + i)) b + count t a
  unfolding count
  count_add a zero = ap (count t) (add-zero a) ∙ omega arith
  count_add a (suc b) = ap (count t) (add-suc a b) ∙ omega (arith, count_add a b)

  pub count_mono : (i n : ℕ) → i ≤ n → count t i ≤ count t n
  count_mono i n h = let e : i + (n - i) ≡ n = omega arith in omega (arith, ap (count t) e, count_add i (n - i))

  pub count_most : (n : ℕ) → count t n ≤ n
  unfolding count
  count_most zero = zero-le
  count_most (suc n) = go (t n) (count_most n)
    where
      go : (b : Bool) → count t n ≤ n → cond b 1 0 + count t n ≤ suc n
      go true h = omega arith
      go false h = omega arith

pub count_same : (s t : ℕ → Bool) (n : ℕ) → ((i : ℕ) → i < n → s i ≡ t i) → count s n ≡ count t n
unfolding count
count_same s t zero h = refl
count_same s t (suc n) h =
    ap₂ (λ b m. cond b 1 0 + m) (h n (le_refl (suc n))) (count_same s t n (λ i b. h i (omega arith)))

pub count_all : (n : ℕ) → count (λ i. true) n ≡ n
unfolding count
count_all zero = refl
count_all (suc n) = let e = count_all n in omega arith

-- two tests of which one holds wherever the other does not
pub count_split : (s t : ℕ → Bool) (n : ℕ) → ((i : ℕ) → i < n → T (s i || t i)) → n ≤ count s n + count t n
unfolding count
count_split s t zero h = zero-le
count_split s t (suc n) h = go (s n) (t n) (h n (le_refl (suc n))) (count_split s t n (λ i b. h i (omega arith)))
  where
    go : (a b : Bool) → T (a || b) → n ≤ count s n + count t n → suc n ≤ cond a 1 0 + count s n + (cond b 1 0 + count t n)
    go true b o l = omega arith
    go false true o l = omega arith
    go false false o l = absurd o

-- one that passes, and two that do
pub count_some : (t : ℕ → Bool) (n i : ℕ) → i < n → t i ≡ true → 1 ≤ count t n
unfolding count
count_some t zero i h e = absurd (not-suc-le-zero h)
count_some t (suc n) i h e = go (ℕ_discrete i n) (λ l. count_some t n i l e)
  where
    go : Dec (i ≡ n) → (i < n → 1 ≤ count t n) → 1 ≤ cond (t n) 1 0 + count t n
    go (yes p) rest = rw (sym (ap t p) ∙ e) (omega arith)
    go (no p) rest = omega (arith, rest (omega arith))

count_two : (t : ℕ → Bool) (n i k : ℕ) → i < k → k < n → t i ≡ true → t k ≡ true → 2 ≤ count t n
count_two t n i k h l e d =
    let s : k + (n - k) ≡ n = omega arith in
    let z : 0 < n - k = omega arith in
    omega (arith, ap (count t) s, count_add t k (n - k), count_some t k i h e, count_some (λ m. t (k + m)) (n - k) 0 z (ap t (add-zero k) ∙ d))

pub count_one : (t : ℕ → Bool) (n i k : ℕ) → count t n ≡ 1 → i < n → k < n → t i ≡ true → k ≢ i → t k ≡ false
count_one t n i k c h l e d = no_false (t k) (λ p. go p (dec_lt i k))
  where
    go : T (t k) → Dec (i < k) → ⊥
    go p (yes b) = omega (arith, count_two t n i k b l e (yes_true (t k) p))
    go p (no b) = omega (arith, count_two t n k i (omega arith) h (yes_true (t k) p) e)

-- those that pass a test, and those that do not
pub count_not : (t : ℕ → Bool) (n : ℕ) → count (λ i. not (t i)) n + count t n ≡ n
unfolding count
count_not t zero = omega arith
count_not t (suc n) = go (t n) (count_not t n)
  where
    go : (b : Bool) → count (λ i. not (t i)) n + count t n ≡ n → cond (not b) 1 0 + count (λ i. not (t i)) n + (cond b 1 0 + count t n) ≡ suc n
    go true e = omega arith
    go false e = omega arith

-- a test that passes wherever another does
pub count_less : (t u : ℕ → Bool) (n : ℕ) → ((i : ℕ) → i < n → t i ≡ true → u i ≡ true) → count t n ≤ count u n
unfolding count
count_less t u zero h = omega arith
count_less t u (suc n) h = go (t n) (u n) (h n (omega arith)) (count_less t u n (λ i l. h i (omega arith)))
  where
    go : (a b : Bool) → (a ≡ true → b ≡ true) → count t n ≤ count u n → cond {A = ℕ} a 1 0 + count t n ≤ cond b 1 0 + count u n
    go true true f c = omega arith
    go true false f c = differ (sym (f refl))
    go false true f c = omega arith
    go false false f c = omega arith

-- one that passes besides at p alone
pub count_and : (t u : ℕ → Bool) (n p : ℕ) → p < n → t p ≡ false → u p ≡ true → ((i : ℕ) → i ≢ p → u i ≡ t i) → count u n ≡ count t n + 1
unfolding count
count_and t u zero p h e f g = absurd (omega arith)
count_and t u (suc n) p h e f g = go (ℕ_discrete n p) (λ l. count_and t u n p l e f g)
  where
    go : Dec (n ≡ p) → (p < n → count u n ≡ count t n + 1) → cond {A = ℕ} (u n) 1 0 + count u n ≡ cond (t n) 1 0 + count t n + 1
    go (yes w) i =
        let c = count_same u t n (λ j l. g j (λ z. omega arith)) in
        rw (ap u w ∙ f, ap t w ∙ e) (omega (arith, c))
    go (no d) i = rw (g n d) (omega (arith, i (omega (arith, d))))
