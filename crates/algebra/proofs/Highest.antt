-- The last of some values that is not 0. Assumes nothing.
--   Highest R l a    == j is the last place below l whose value under a is not 0
--   highest          all values below l are 0, or there is a last that is not
use mathlib.Core.Path.{◌≡◌}
use mathlib.Core.Logic.{◌≢◌, ◌⊎◌, inl, inr}
use Prim.Native.Nat.{ℕ, zero, suc, ◌<◌}
use native.Mathlib.Decide.{ℕ_discrete}
use native.Mathlib.Omega.{arith}
use Rattle.algebra.specs.Ring.{Ring}

module _ (R : Ring) where
  open R use {El, dec, nil as 𝟘}

  pub record Highest (l : ℕ) (a : ℕ → El) : Type 0 where
    pub j : ℕ
    pub inside : j < l
    pub some : a j ≢ 𝟘
    pub above : (m : ℕ) → j < m → m < l → a m ≡ 𝟘

  abbrev pub AllNil : (l : ℕ) → (a : ℕ → El) → Type 0
  AllNil l a = (m : ℕ) → m < l → a m ≡ 𝟘

  pub highest : (l : ℕ) (a : ℕ → El) → AllNil l a ⊎ Highest l a
  highest zero a = inl (λ m h. absurd (omega arith))
  highest (suc l) a = go (dec (a l) 𝟘) (highest l a)
    where
      go : Dec (a l ≡ 𝟘) → AllNil l a ⊎ Highest l a → AllNil (suc l) a ⊎ Highest (suc l) a
      go (no n) _ = inr (record { j = l; inside = omega arith; some = n; above = λ m h g. absurd (omega arith) })
      go (yes e) (inl z) = inl (λ m h. one m h (ℕ_discrete m l))
        where
          one : (m : ℕ) → m < suc l → Dec (m ≡ l) → a m ≡ 𝟘
          one m h (yes p) = rw p e
          one m h (no p) = z m (omega arith)
      go (yes e) (inr t) = inr (record { j = t.j; inside = omega (arith, t.inside); some = t.some; above = λ m h g. one m h g (ℕ_discrete m l) })
        where
          one : (m : ℕ) → t.j < m → m < suc l → Dec (m ≡ l) → a m ≡ 𝟘
          one m h g (yes p) = rw p e
          one m h g (no p) = t.above m h (omega arith)
