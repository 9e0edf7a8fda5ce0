-- What the steps to the symbols of a group answer and write. Assumes nothing: these are definitions.
-- A row of coefficients in blocks of r is a polynomial: block j goes with g to the power j, for g = X to the power size less c. On a group g is a
-- constant, its level, and the polynomial is one with r coefficients, the group's local polynomial.
--   local_coefs s y rs       == its coefficients at the level y: number i is the value at y of the polynomial of the entries i, i + r, i + 2 r ..
--   level s c j              == the value of g on group j
--   local_value s c rs p     == the value at the point of place p of the local polynomial of its group
--   GroupPoints s j z       == z starts with the points of group j
--   HornerStep f a xs l v z == the values v have become z: the first l times their points xs, plus a
--   ValuesAt f cs xs l z    == z starts with the values at the first l points xs of the polynomial with the coefficients cs
--   GroupSymbols s c rs j z == z starts with the values of group j
use Rattle.std.specs.Prelude.{◌≡◌, List, ℕ, ◌*◌, ◌<◌, length}
use Rattle.algebra.specs.Sequence.{at, tabulate}
use Rattle.algebra.specs.Strand.{strand}
use Rattle.field.specs.Field.{γ, plus, minus, times, power}
use Rattle.field.specs.Polynomial.{poly}
use Rattle.code.specs.Shape.{size, group, slot_at, point_at, point}
use Rattle.code.specs.declared.Shape.{Shape}

unfoldable pub local_coefs : Shape → (y : ℕ) → (row : List ℕ) → List ℕ
local_coefs s y rs = tabulate (λ i. poly s.field (strand s.r i 0 rs) y) s.r

unfoldable pub level : Shape → (c group : ℕ) → ℕ
level s c j = minus s.field (power s.field γ (j * size s)) c

unfoldable pub local_value : Shape → (c : ℕ) → (row : List ℕ) → (place : ℕ) → ℕ
local_value s c rs p = poly s.field (local_coefs s (level s c (group s p)) rs) (point s p)

pub record GroupPoints (s : Shape) (j : ℕ) (z : List ℕ) : Type 0 where
  pub room : length z ≡ 17
  pub entry : (i : ℕ) → i < size s → at z i ≡ point_at s j i

pub record HornerStep (f a : ℕ) (xs : List ℕ) (l : ℕ) (v z : List ℕ) : Type 0 where
  pub room : length z ≡ length v
  pub entry : (i : ℕ) → i < l → at z i ≡ plus f a (times f (at xs i) (at v i))

pub record ValuesAt (f : ℕ) (cs xs : List ℕ) (l : ℕ) (z : List ℕ) : Type 0 where
  pub room : length z ≡ 17
  pub entry : (i : ℕ) → i < l → at z i ≡ poly f cs (at xs i)

pub record GroupSymbols (s : Shape) (c : ℕ) (rs : List ℕ) (j : ℕ) (z : List ℕ) : Type 0 where
  pub room : length z ≡ 17
  pub entry : (i : ℕ) → i < size s → at z i ≡ local_value s c rs (slot_at s j i)
