-- Lists made of a function on the numbers below a bound. Assumes nothing.
--   length_tabulate, at_tabulate     length and entries; length_from, from a number on
--   tabulate_is, tabulate_same       a list with these entries; two functions that agree
--   length_table, at_table           length and entries of a list that is such a list
--   tabulate_suc                     one entry more, at the end
--   each_tabulate                    what holds of each entry
--   from_each, from_distinct         each entry is so, from a number on; no entry twice
use mathlib.Core.Path.{◌≡◌, refl, sym, ap, ◌∙◌}
use mathlib.Core.List.{List, [], ◌∷◌, ◌++◌}
use mathlib.Core.Logic.{◌≢◌}
use Prim.Native.Nat.{ℕ, zero, suc, ◌+◌, ◌≤◌, ◌<◌}
use native.Mathlib.Nat.{add-zero, add-suc, suc-add, zero-add, not-suc-le-zero, le_of_suc-le-suc}
use native.Mathlib.Numerals.{add-one}
use native.Mathlib.Omega.{arith}
use lib.ListN.{length, get_or}
use lib.Seq.{ext_get_or}
use Rattle.algebra.specs.Sequence.{at, tabulate_from, tabulate, Each, Distinct}

module _ {A : Type 0} (f : ℕ → A) where
  pub length_from : (l i : ℕ) → length (tabulate_from f l i) ≡ l
  unfolding tabulate_from
  length_from zero i = refl
  length_from (suc l) i = ap suc (length_from l (suc i))

  at_from : (d : A) (l i k : ℕ) → k < l → get_or (tabulate_from f l i) k d ≡ f (i + k)
  unfolding tabulate_from
  at_from d zero i k h = absurd (not-suc-le-zero h)
  at_from d (suc l) i zero h = rw add-zero refl
  at_from d (suc l) i (suc k) h = at_from d l (suc i) k (le_of_suc-le-suc h) ∙ ap f (suc-add i k ∙ sym (add-suc i k))

  pub length_tabulate : (n : ℕ) → length (tabulate f n) ≡ n
  unfolding tabulate
  length_tabulate n = length_from n 0

  pub at_tabulate : (d : A) (n i : ℕ) → i < n → get_or (tabulate f n) i d ≡ f i
  unfolding tabulate
  at_tabulate d n i h = at_from d n 0 i h ∙ ap f (zero-add i)

  pub tabulate_is : (d : A) (n : ℕ) (xs : List A) → length xs ≡ n → ((i : ℕ) → i < n → get_or xs i d ≡ f i) → xs ≡ tabulate f n
  tabulate_is d n xs l h =
      ext_get_or d xs (tabulate f n) (l ∙ sym (length_tabulate n))
      (λ i b. let b' : i < n = omega arith in h i b' ∙ sym (at_tabulate d n i b'))

  from_suc : (l i : ℕ) → tabulate_from f (suc l) i ≡ tabulate_from f l i ++ (f (i + l) ∷ [])
  unfolding tabulate_from
  from_suc zero i = rw add-zero refl
  from_suc (suc l) i = ap (λ xs. f i ∷ xs) (from_suc l (suc i) ∙ ap (λ k. tabulate_from f l (suc i) ++ (f k ∷ [])) (suc-add i l ∙ sym (add-suc i l)))

  pub tabulate_suc : (n : ℕ) → tabulate f (n + 1) ≡ tabulate f n ++ (f n ∷ [])
  unfolding tabulate
  tabulate_suc n = rw add-one (from_suc n 0 ∙ ap (λ k. tabulate_from f n 0 ++ (f k ∷ [])) (zero-add n))

  each_from : (P : A → Type 0) (l i : ℕ) → Each P (tabulate_from f l i) → (k : ℕ) → k < l → P (f (i + k))
  unfolding tabulate_from
  each_from P zero i e k h = absurd (not-suc-le-zero h)
  each_from P (suc l) i e zero h = rw add-zero e.0
  each_from P (suc l) i e (suc k) h = rw (add-suc, ← suc-add) (each_from P l (suc i) e.1 k (le_of_suc-le-suc h))

  pub each_tabulate : (P : A → Type 0) (n : ℕ) → Each P (tabulate f n) → (i : ℕ) → i < n → P (f i)
  unfolding tabulate
  each_tabulate P n e i h = rw zero-add at (each_from P n 0 e i h)

  pub from_each : (P : A → Type 0) (l i : ℕ) → ((p : ℕ) → i ≤ p → p < i + l → P (f p)) → Each P (tabulate_from f l i)
  unfolding tabulate_from
  from_each P zero i h = tt
  from_each P (suc l) i h = (h i (omega arith) (omega arith), from_each P l (suc i) (λ p a b. h p (omega arith) (omega arith)))

  pub from_distinct : (l i : ℕ) → ((p o : ℕ) → i ≤ p → p < i + l → i ≤ o → o < i + l → f p ≡ f o → p ≡ o) → Distinct (tabulate_from f l i)
  unfolding tabulate_from
  from_distinct zero i h = tt
  from_distinct (suc l) i h = (
    from_each (λ y. y ≢ f i) l (suc i) (λ p a b e. absurd (omega (arith, h p i (omega arith) (omega arith) (omega arith) (omega arith) e))),
    from_distinct l (suc i) (λ p o a b c d. h p o (omega arith) (omega arith) (omega arith) (omega arith)),
  )

pub tabulate_same : {A : Type 0} (d : A) (f g : ℕ → A) (n : ℕ) → ((i : ℕ) → i < n → f i ≡ g i) → tabulate f n ≡ tabulate g n
tabulate_same d f g n h = tabulate_is g d n (tabulate f n) (length_tabulate f n) (λ i b. at_tabulate f d n i b ∙ h i b)

module _ (f : ℕ → ℕ) (n : ℕ) (xs : List ℕ) (e : xs ≡ tabulate f n) where
  pub length_table : length xs ≡ n
  length_table = ap (λ l. length l) e ∙ length_tabulate f n

  pub at_table : (i : ℕ) → i < n → at xs i ≡ f i
  at_table i h = ap (λ l. at l i) e ∙ at_tabulate f 0 n i h
