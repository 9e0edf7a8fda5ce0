-- How many checks there are. Assumes nothing.
--   with_r, with_other, with_none           with r mates, with another number, where k is r or more
--   checks_by                               those of a slot, by the number of its mates
--   checks_full, checks_few, checks_none    where the slot has r mates, where it has fewer, where k is r or more
--   checks_most                             at most r
use mathlib.Core.Path.{◌≡◌, refl, ap}
use mathlib.Core.Logic.{◌≢◌}
use mathlib.Core.Bool.{Bool, true, false, cond}
use Prim.Native.Nat.{ℕ, ◌-◌, ◌≤◌, ◌<◌}
use native.Mathlib.Omega.{arith}
use borrow.Author.Tests.{eq-eqb, ne_eqb}
use lib.Dec.{eqb}
use lib.ListN.{length}
use Rattle.code.specs.declared.Shape.{Shape}
use Rattle.code.specs.Shape.{mates}
use Rattle.parity.specs.Parity.{checks_with, checks}

module _ (s : Shape) (m : ℕ) where
  pub with_r : m ≡ s.r → checks_with s m ≡ s.r - s.k
  unfolding checks_with
  with_r h = rw (eq-eqb m s.r h) refl

  pub with_other : m ≢ s.r → checks_with s m ≡ 0
  unfolding checks_with
  with_other h = rw (ne_eqb m s.r h) refl

  pub with_none : s.r ≤ s.k → checks_with s m ≡ 0
  unfolding checks_with
  with_none h = go (eqb m s.r)
    where
      go : (b : Bool) → cond b (s.r - s.k) 0 ≡ 0
      go true = omega arith
      go false = refl

  with_most : checks_with s m ≤ s.r
  unfolding checks_with
  with_most = go (eqb m s.r)
    where
      go : (b : Bool) → cond b (s.r - s.k) 0 ≤ s.r
      go true = omega arith
      go false = omega arith

module _ (s : Shape) (p : ℕ) where
  pub checks_by : (m : ℕ) → m ≡ length (mates s p) → checks_with s m ≡ checks s p
  unfolding checks
  checks_by m e = ap (checks_with s) e

  pub checks_full : length (mates s p) ≡ s.r → checks s p ≡ s.r - s.k
  unfolding checks
  checks_full h = with_r s (length (mates s p)) h

  pub checks_few : length (mates s p) < s.r → checks s p ≡ 0
  unfolding checks
  checks_few h = with_other s (length (mates s p)) (λ e. omega arith)

  pub checks_none : s.r ≤ s.k → checks s p ≡ 0
  unfolding checks
  checks_none h = with_none s (length (mates s p)) h

  pub checks_most : checks s p ≤ s.r
  unfolding checks
  checks_most = with_most s (length (mates s p))
