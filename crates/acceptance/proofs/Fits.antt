-- The numbers that questions 2 to 4 take. Assumes nothing.
--   r_says, n_says                       what the answer yes says
--   room_most, room_least, groups_few    the places of whole groups
--   least_is, least_more, least_some     the least k, by n mod (r + 1)
use mathlib.Core.Path.{◌≡◌, ap, ◌∙◌}
use mathlib.Core.Logic.{◌≢◌}
use mathlib.Core.Bool.{true, false, cond}
use Prim.Native.Nat.{ℕ, zero, suc, ◌+◌, ◌*◌, ◌-◌, ◌%◌, ◌≤◌, ◌<◌}
use native.Mathlib.Nat.{div-add-mod', div-mul-le_self, mod-lt, mul-le-mul_left}
use native.Mathlib.Decide.{ℕ_discrete}
use native.Mathlib.Omega.{arith}
use lib.Arith.{digits_mod}
use Rattle.std.proofs.lemmas.Bool.Decides.{nat_tests}
use borrow.Author.Tests.{ne_eqb}
use Rattle.field.specs.Field.{q}
use Rattle.code.specs.declared.Shape.{Shape}
use Rattle.code.specs.Shape.{ceiling, size, groups, room, missing, whole}
use Rattle.code.specs.Family.{r_fits, n_fits, least}
use Rattle.code.proofs.Accepted.{whole_of}

module _ (s : Shape) where
  -- what the answer yes to questions 2 and 3 says
  pub r_says : r_fits s ≡ true → (1 ≤ s.r) × (size s ≤ 17)
  unfolding r_fits
  r_says h = grind (arith, nat_tests)

  pub n_says : n_fits s ≡ true → (1 ≤ s.n) × (s.n % size s ≢ 1) × (room s ≤ q s.field - 1)
  unfolding n_fits
  n_says h = grind (arith, nat_tests)

  -- the places of whole groups
  pub room_most : 1 ≤ size s → s.n ≤ room s
  unfolding room groups ceiling
  room_most h = omega (arith, div-add-mod' (s.n + size s - 1) (size s), mod-lt (s.n + size s - 1) h)

  pub room_least : 1 ≤ size s → room s < s.n + size s
  unfolding room groups ceiling
  room_least h = omega (arith, div-mul-le_self (s.n + size s - 1) (size s))

  -- no more groups than slots
  pub groups_few : 2 ≤ size s → groups s ≤ s.n
  unfolding room
  groups_few h = go (groups s) (room_least (omega arith))
    where
      go : (g : ℕ) → g * size s < s.n + size s → g ≤ s.n
      go zero l = omega arith
      go (suc g) l = let m : g * 2 ≤ g * size s = mul-le-mul_left g h in omega arith

  short_of : 1 ≤ size s → s.n % size s ≢ 0 → whole s ≡ false
  unfolding whole missing room
  short_of h e = ne_eqb (room s - s.n) 0 (λ z. e (ap (λ n. n % size s) (parts z) ∙ digits_mod (groups s) h))
    where
      parts : room s - s.n ≡ 0 → s.n ≡ groups s * size s + 0
      parts z = omega (arith, room_most h)

  -- the least k, by n mod (r + 1)
  pub least_is : 1 ≤ size s → (k : ℕ) → 1 ≤ k → s.n % size s ≤ k + 1 → least s ≤ k
  unfolding least
  least_is h k o l = go (ℕ_discrete (s.n % size s) 0)
    where
      go : Dec (s.n % size s ≡ 0) → cond (whole s) 1 (s.n % size s - 1) ≤ k
      go (yes e) = rw (whole_of s h e) o
      go (no e) = rw (short_of h e) (omega arith)

  pub least_more : 1 ≤ size s → (k : ℕ) → k + 1 < s.n % size s → k < least s
  unfolding least
  least_more h k l = rw (short_of h (λ e. omega arith)) (omega arith)

  pub least_some : 1 ≤ size s → s.n % size s ≢ 1 → 1 ≤ least s
  unfolding least
  least_some h n = go (ℕ_discrete (s.n % size s) 0)
    where
      go : Dec (s.n % size s ≡ 0) → 1 ≤ cond (whole s) 1 (s.n % size s - 1)
      go (yes e) = rw (whole_of s h e) (omega arith)
      go (no e) = rw (short_of h e) (omega arith)
