-- The test of equality of two numbers, and what it says. Assumes nothing.
--   Same m n b, same?    m and n are equal where b is true, and different where it is false; so for the test itself
use mathlib.Core.Path.{◌≡◌, refl, ap, ◌∙◌, subst}
use mathlib.Core.Logic.{◌≢◌}
use mathlib.Core.Bool.{Bool, true, false}
use Prim.Native.Nat.{ℕ}
use lib.Dec.{T, eqb, eqb→eq, eqb_refl}

pub data Same (m n : ℕ) : Bool → Type 0 where
  same : m ≡ n → Same m n true
  other : m ≢ n → Same m n false

pub same? : (m n : ℕ) → Same m n (eqb m n)
same? m n = go (eqb m n) refl
  where
    go : (t : Bool) → eqb m n ≡ t → Same m n t
    go true e = same (eqb→eq m n (rw e tt))
    go false e = other (λ p. subst T (ap (λ k. eqb m k) p ∙ e) (eqb_refl m))
