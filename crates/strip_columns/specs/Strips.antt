-- Strips of codewords. Assumes nothing: these are definitions.
-- Strips lie behind each other: column c of m strips of l symbols is one symbol of each.
--   strips_are l n b        == b symbols are n strips of l, with l from 1 to 4,096
--   encoded_strips s l ms   == n strips of l symbols: column c is encode of column c of the k strips ms
use Rattle.std.specs.Prelude.{Bool, ◌&&◌, List, ℕ, ◌*◌, ◌/◌, ◌%◌, eqb, leb}
use Rattle.algebra.specs.Sequence.{at, tabulate, column}
use Rattle.code.specs.Codeword.{encoded}
use Rattle.code.specs.declared.Shape.{Shape}

unfoldable pub strips_are : (l n b : ℕ) → Bool
strips_are l n b = (leb 1 l && leb l 4096) && eqb b (n * l)

unfoldable pub encoded_strips : Shape → (l : ℕ) → (messages : List ℕ) → List ℕ
encoded_strips s l ms = tabulate (λ x. at (encoded s (column s.k l (x % l) ms)) (x / l)) (s.n * l)
