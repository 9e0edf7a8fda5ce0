-- Polynomials as lists of coefficients, the constant one first. Assumes nothing: these are definitions.
--   eval R cs x   == the value of the polynomial with the coefficients cs at x
--   Zeros R cs    == all coefficients are 0
--   diff R cs ds  == the coefficients of the difference; a missing one counts as 0
--   Poly R n g    == the function g is a polynomial with at most n coefficients, so of degree below n
use Rattle.std.specs.Prelude.{◌≡◌, List, [], ◌∷◌, ℕ, ◌≤◌, length}
use Rattle.algebra.specs.Ring.{Ring}
use Rattle.algebra.specs.Sequence.{Each}

unfoldable pub eval : (R : Ring) → List R.El → R.El → R.El
eval R [] x = R.nil
eval R (c ∷ cs) x = R.add c (R.mul x (eval R cs x))

abbrev pub Zeros : (R : Ring) → List R.El → Type 0
Zeros R cs = Each (λ c. c ≡ R.nil) cs

unfoldable pub diff : (R : Ring) → List R.El → List R.El → List R.El
diff R [] [] = []
diff R [] (d ∷ ds) = R.sub R.nil d ∷ diff R [] ds
diff R (c ∷ cs) [] = R.sub c R.nil ∷ diff R cs []
diff R (c ∷ cs) (d ∷ ds) = R.sub c d ∷ diff R cs ds

pub record Poly (R : Ring) (n : ℕ) (g : R.El → R.El) : Type 0 where
  pub coefs : List R.El
  pub few : length coefs ≤ n
  pub is : (x : R.El) → g x ≡ eval R coefs x
