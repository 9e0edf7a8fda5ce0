-- Symbols that some codeword has. Assumes nothing: these are definitions.
-- The paper's word: a slot's mates are true where some codeword has these symbols at them; the standard term is consistent with the code.
--   has s xs os ys    == the codeword of the message xs has the symbols ys at the places os
--   held s os ys      == the codeword of some message has
--   columns_held      == so of every column of strips of l symbols that lie behind each other, one for each mate of slot p
use Rattle.std.specs.Prelude.{Bool, List, ℕ, eqb, length}
use Rattle.algebra.specs.Sequence.{at, every, column}
use Rattle.code.specs.declared.Shape.{Shape}
use Rattle.code.specs.Shape.{mates}
use Rattle.code.specs.Codeword.{some_message, encoded}

unfoldable pub has : Shape → (message places symbols : List ℕ) → Bool
has s xs os ys = every (λ i. eqb (at (encoded s xs) (at os i)) (at ys i)) (length os)

unfoldable pub held : Shape → (places symbols : List ℕ) → Bool
held s os ys = some_message s (λ xs. has s xs os ys)

unfoldable pub columns_held : Shape → (slot l : ℕ) → (strips : List ℕ) → Bool
columns_held s p l xs = every (λ i. held s (mates s p) (column (length (mates s p)) l i xs)) l
