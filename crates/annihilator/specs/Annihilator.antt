-- Polynomials that are 0 at the kept places of a word and have no coefficient at the gaps. Assumes nothing: these are definitions.
-- A mark 1 says that the place is lost; the gaps are the exponents j * size + r for j below gaps.
--   Annihilates f n size r gaps most xs ms ds == ds is most elements of the field; their polynomial is 0 at the point xs of each place
--                                                below n that is not lost, and the coefficients at the gaps are 0
--   Annihilated                               the answer: none but 0 is so (true), or one that is not 0 (false)
use Rattle.std.specs.Prelude.{◌≡◌, ◌≢◌, Bool, true, false, List, ℕ, ◌+◌, ◌*◌, ◌<◌, length}
use Rattle.algebra.specs.Sequence.{at, all_below}
use Rattle.field.specs.Field.{q}
use Rattle.field.specs.Polynomial.{poly}

pub record Annihilates (f n size r gaps most : ℕ) (points marks ds : List ℕ) : Type 0 where
  pub size_is : length ds ≡ most
  pub below : all_below (q f) ds ≡ true
  pub zeros : (p : ℕ) → p < n → at marks p ≢ 1 → poly f ds (at points p) ≡ 0
  pub gap_zeros : (j : ℕ) → j < gaps → at ds (j * size + r) ≡ 0

pub data Annihilated (f n size r gaps most : ℕ) (points marks : List ℕ) : Bool → Type 0 where
  none :
      ((ds : List ℕ) → Annihilates f n size r gaps most points marks ds → (m : ℕ) → at ds m ≡ 0)
      → Annihilated f n size r gaps most points marks true
  some :
      (ds : List ℕ) (m : ℕ) → Annihilates f n size r gaps most points marks ds → at ds m ≢ 0
      → Annihilated f n size r gaps most points marks false
