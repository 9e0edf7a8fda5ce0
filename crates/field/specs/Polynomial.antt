-- Polynomials and sums of products over the two fields. Assumes nothing: these are definitions.
--   poly f cs x            == the value at x of the polynomial with the coefficients cs, the constant one first
--   dotted f ws xs         == the sum of w times x over the entries of both lists
--   weighed f ws r l xs    == column by column, the sum of weight times symbol over r strips of l symbols that lie behind each other in xs
use Rattle.std.specs.Prelude.{List, [], ◌∷◌, ℕ, take}
use Rattle.algebra.specs.Sequence.{tabulate, column}
use Rattle.field.specs.Field.{plus, times}

unfoldable pub poly : (field : ℕ) → List ℕ → ℕ → ℕ
poly f [] x = 0
poly f (c ∷ cs) x = plus f c (times f x (poly f cs x))

unfoldable pub dotted : (field : ℕ) → List ℕ → List ℕ → ℕ
dotted f [] xs = 0
dotted f (w ∷ ws) [] = 0
dotted f (w ∷ ws) (x ∷ xs) = plus f (times f w x) (dotted f ws xs)

abbrev pub weighed : (field : ℕ) → (weights : List ℕ) → (r l : ℕ) → (strips : List ℕ) → List ℕ
weighed f ws r l xs = tabulate (λ i. dotted f (take r ws) (column r l i xs)) l
