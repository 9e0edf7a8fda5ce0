-- The number that is m-th to pass a test: what is found, and that it is. Assumes nothing.
--   Nth t n m x      == x is below n, passes t, and m numbers before it do
--   nth_is           nth finds it where more than m below n pass
--   nth_most         a smaller m has no larger number
--   nth_same         tests that agree
use mathlib.Core.Path.{◌≡◌, refl, ap, ap₂, ◌∙◌}
use mathlib.Core.Bool.{Bool, true, false, cond}
use Prim.Native.Nat.{ℕ, zero, suc, ◌+◌, ◌≤◌, ◌<◌}
use native.Mathlib.Nat.{add-zero, add-suc, suc-add, zero-add}
use native.Mathlib.Decide.{dec_lt}
use native.Mathlib.Omega.{arith}
use lib.Dec.{eqb}
use Rattle.algebra.specs.Sequence.{count}
use Rattle.algebra.proofs.Equality.{Same, same, other, same?}
use Rattle.algebra.proofs.Counting.{count_zero, count_mono, count_same}
use Rattle.code.specs.Search.{nth_from, nth}

pub record Nth (t : ℕ → Bool) (n m x : ℕ) : Type 0 where
  pub below : x < n
  pub passes : t x ≡ true
  pub rank : count t x ≡ m

module _ (t : ℕ → Bool) where
  count_next : (e : ℕ) (b : Bool) → t e ≡ b → count t (suc e) ≡ cond b 1 0 + count t e
  unfolding count
  count_next e b p = ap (λ c. cond c 1 0 + count t e) p

  from_is : (l e m : ℕ) → count t e ≤ m → m < count t (e + l) → Nth t (e + l) m (nth_from t l e m)
  unfolding nth_from
  from_is zero e m h k = absurd (omega (arith, ap (count t) (add-zero e)))
  from_is (suc l) e m h k = go (t e) refl (eqb (count t e) m) (same? (count t e) m)
      (λ b. rw (suc-add e l, ← add-suc e l) at (from_is l (suc e) m b (rw (add-suc e l, ← suc-add e l) at k)))
    where
      go : (b : Bool) → t e ≡ b → (c : Bool) → Same (count t e) m c → (count t (suc e) ≤ m → Nth t (e + suc l) m (nth_from t l (suc e) m))
          → Nth t (e + suc l) m (cond b (cond c e (nth_from t l (suc e) m)) (nth_from t l (suc e) m))
      go true p true (same s) rest = record { below = omega arith; passes = p; rank = s }
      go true p false (other s) rest = rest (omega (arith, count_next e true p))
      go false p c s rest = rest (omega (arith, count_next e false p))

  pub nth_is : (n m : ℕ) → m < count t n → Nth t n m (nth t n m)
  unfolding nth
  nth_is n m h = rw (zero-add n) at (from_is n 0 m (omega (arith, count_zero t)) (omega (arith, ap (count t) (zero-add n))))

  pub nth_most : (n i j x y : ℕ) → i ≤ j → Nth t n i x → Nth t n j y → x ≤ y
  nth_most n i j x y h X Y = go (dec_lt y x)
    where
      go : Dec (y < x) → x ≤ y
      go (yes l) = absurd (omega (arith, count_next y true Y.passes, count_mono t (suc y) x l, X.rank, Y.rank))
      go (no l) = omega arith

module _ (t u : ℕ → Bool) (agree : (e : ℕ) → t e ≡ u e) (m : ℕ) where
  from_same : (l e : ℕ) → nth_from t l e m ≡ nth_from u l e m
  unfolding nth_from
  from_same zero e = refl
  from_same (suc l) e =
      ap₂ {B = ℕ} (λ b x. cond b (cond (eqb (count t e) m) e x) x) (agree e) (from_same l (suc e))
      ∙ ap (λ c. cond (u e) (cond (eqb c m) e (nth_from u l (suc e) m)) (nth_from u l (suc e) m)) (count_same t u e (λ i h. agree i))

  pub nth_same : (n : ℕ) → nth t n m ≡ nth u n m
  unfolding nth
  nth_same n = from_same n 0
