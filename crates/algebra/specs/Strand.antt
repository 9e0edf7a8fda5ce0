-- Every r-th entry of a list. Assumes nothing: these are definitions.
--   strand r i m xs  == of the entries xs, the first of them entry m, those at place i of their block of r, in order
use Rattle.std.specs.Prelude.{cond, List, [], ◌∷◌, ℕ, suc, ◌%◌, eqb}

unfoldable pub strand : {A : Type 0} → (r i m : ℕ) → List A → List A
strand r i m [] = []
strand r i m (x ∷ xs) = cond (eqb (m % r) i) (x ∷ strand r i (suc m) xs) (strand r i (suc m) xs)
