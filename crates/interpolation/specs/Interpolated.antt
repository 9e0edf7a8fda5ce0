-- What the interpolation of a word says. Assumes nothing: these are definitions.
-- A mark 1 says that the place is lost.
--   masked w mark            == the symbol w, and 0 where it is lost
--   Passes f n xs ws ms cs   == the polynomial with the coefficients cs has the value ws at the point xs of each place below n that is not lost
--   Interpolated             the coefficients cs, most of them, and the answer r: where it is true, they pass
--     only                   a polynomial with most coefficients that passes is this one, and r is then true
use Rattle.std.specs.Prelude.{◌≡◌, ◌≢◌, Bool, true, cond, List, ℕ, ◌≤◌, ◌<◌, T, eqb, length}
use Rattle.algebra.specs.Sequence.{at, all_below}
use Rattle.field.specs.Field.{q}
use Rattle.field.specs.Polynomial.{poly}

unfoldable pub masked : (w mark : ℕ) → ℕ
masked w mark = cond (eqb mark 1) 0 w

abbrev pub Passes : (f n : ℕ) → (points values marks cs : List ℕ) → Type 0
Passes f n xs ws ms cs = (p : ℕ) → p < n → at ms p ≢ 1 → poly f cs (at xs p) ≡ at ws p

pub record Interpolated (f n most : ℕ) (xs ws ms cs : List ℕ) (r : Bool) : Type 0 where
  pub below : (m : ℕ) → at cs m < q f
  pub few : (m : ℕ) → most ≤ m → at cs m ≡ 0
  pub through : r ≡ true → Passes f n xs ws ms cs
  pub only :
      (ds : List ℕ) → T (all_below (q f) ds) → length ds ≡ most → Passes f n xs ws ms ds
      → (r ≡ true) × ((m : ℕ) → m < most → at ds m ≡ at cs m)
