-- What the steps of shortening write and answer. Assumes nothing: these are definitions.
-- A row of coefficients in blocks of r is a polynomial in powers of g, as in local_code: at a level y of g it has r coefficients.
--   Moved s c a z         == the row a has become z: at every level y it is the polynomial that a is at the level y + c
--   Divided f y a z       == z is the polynomial a divided by X - y: entry p is the value at y of the polynomial of the entries of a behind p
--   LastSymbols s cs z   == z is the polynomial cs divided by h: r - missing coefficients, and then zeros
use Rattle.std.specs.Prelude.{◌≡◌, true, List, ℕ, suc, ◌+◌, ◌≤◌, ◌<◌, length, drop}
use Rattle.algebra.specs.Sequence.{at, all_below}
use Rattle.field.specs.Field.{q, plus, times}
use Rattle.field.specs.Polynomial.{poly}
use Rattle.code.specs.declared.Shape.{Shape}
use Rattle.code.specs.Shape.{missing}
use Rattle.code.specs.Basis.{vanishing}
use Rattle.local_code.specs.Step.{local_coefs}

pub record Moved (s : Shape) (c : ℕ) (a z : List ℕ) : Type 0 where
  pub size : length z ≡ length a
  pub below : all_below (q s.field) z ≡ true
  pub same : (y x : ℕ) → y < q s.field → x < q s.field
      → poly s.field (local_coefs s y z) x ≡ poly s.field (local_coefs s (plus s.field y c) a) x

pub record Divided (f y : ℕ) (a z : List ℕ) : Type 0 where
  pub size : length z ≡ length a
  pub entry : (p : ℕ) → p < length a → at z p ≡ poly f (drop (suc p) a) y

pub record LastSymbols (s : Shape) (cs z : List ℕ) : Type 0 where
  pub room : length z ≡ 16
  pub below : all_below (q s.field) z ≡ true
  pub few : (p : ℕ) → s.r ≤ p + missing s → at z p ≡ 0
  pub same : (x : ℕ) → x < q s.field → poly s.field cs x ≡ times s.field (vanishing s x) (poly s.field z x)
