-- The steps: the product over the kept places, and the equations of the gaps. Assumes nothing: these are definitions.
--   Vanishes f xs ms i c zs        zs is the product of X - x over the points x of the places below i that are not lost:
--                                  of degree c, how many they are, with the leading coefficient 1, and 0 at each of them
--   shifted zs e i              == coefficient e of the polynomial zs times X to the power i
--   product f t zs us e         == coefficient e of the polynomial zs times that of the t coefficients us
--   Clear f t size r gaps zs us == this product has no coefficient at the gaps
--   Gathered                       just the vectors whose product with zs has no coefficient at the gaps below j solve the rows of the buffer b
--   Cofactors                      the answer: no vector but 0 is clear (true), or one that is not 0 (false)
use Rattle.std.specs.Prelude.{◌≡◌, ◌≢◌, Bool, true, false, cond, List, ℕ, ◌+◌, ◌*◌, ◌-◌, ◌<◌, ltb, length}
use Rattle.algebra.specs.Sequence.{at, tabulate, count}
use Rattle.field.specs.Field.{q}
use Rattle.field.specs.Polynomial.{poly, dotted}
use Rattle.interpolation.specs.Step.{kept}
use Rattle.linear.specs.System.{Vector, Solved, Echelon}

pub record Vanishes (f : ℕ) (xs ms : List ℕ) (i c : ℕ) (zs : List ℕ) : Type 0 where
  pub taken : c ≡ count (kept ms) i
  pub size : length zs ≡ 256
  pub below : (m : ℕ) → at zs m < q f
  pub few : (m : ℕ) → c < m → at zs m ≡ 0
  pub top : at zs c ≡ 1
  pub roots : (p : ℕ) → p < i → at ms p ≢ 1 → poly f zs (at xs p) ≡ 0

unfoldable pub shifted : List ℕ → (e i : ℕ) → ℕ
shifted zs e i = cond (ltb e i) 0 (at zs (e - i))

unfoldable pub product : (f t : ℕ) → (zs us : List ℕ) → (e : ℕ) → ℕ
product f t zs us e = dotted f us (tabulate (shifted zs e) t)

abbrev pub Clear : (f t size r gaps : ℕ) → (zs us : List ℕ) → Type 0
Clear f t size r gaps zs us = (j : ℕ) → j < gaps → product f t zs us (j * size + r) ≡ 0

pub record Gathered (f t size r : ℕ) (zs : List ℕ) (j : ℕ) (b : List ℕ) : Type 0 where
  pub echelon : Echelon f t b
  pub clear : (us : List ℕ) → Vector f t us → Solved f t b us → Clear f t size r j zs us
  pub solve : (us : List ℕ) → Vector f t us → Clear f t size r j zs us → Solved f t b us

pub data Cofactors (f t size r gaps : ℕ) (zs : List ℕ) : Bool → Type 0 where
  none :
      ((us : List ℕ) → Vector f t us → Clear f t size r gaps zs us → (m : ℕ) → m < t → at us m ≡ 0)
      → Cofactors f t size r gaps zs true
  some :
      (us : List ℕ) (m : ℕ) → Vector f t us → Clear f t size r gaps zs us → m < t → at us m ≢ 0
      → Cofactors f t size r gaps zs false
