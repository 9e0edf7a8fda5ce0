-- Messages, the encoding polynomial and codewords, of every family. Assumes nothing: these are definitions.
--   value s ms x      == the value at x of the encoding polynomial of the message ms
--   symbol s ms p     == its value at the point of place p
--   some_message s t  == some message passes the test t
--   encoded s ms      == the codeword of ms
--   shared s a b      == how many places the words a and b share
--   guarantee s       == so many losses never lose a message
use Rattle.std.specs.Prelude.{◌≡◌, Bool, true, ◌&&◌, List, [], ◌∷◌, ℕ, suc, ◌-◌, eqb, length}
use Rattle.algebra.specs.Sequence.{at, tabulate, count, all_below}
use Rattle.field.specs.Field.{q, plus, times}
use Rattle.code.specs.declared.Shape.{Shape}
use Rattle.code.specs.Search.{any_list}
use Rattle.code.specs.Shape.{point}
use Rattle.code.specs.Basis.{basis, most_shared}

unfoldable pub is_message : Shape → List ℕ → Bool
is_message s ms = eqb (length ms) s.k && all_below (q s.field) ms

unfoldable pub some_message : Shape → (List ℕ → Bool) → Bool
some_message s t = any_list s.k (q s.field) t

unfoldable pub value_from : Shape → (x m : ℕ) → (message : List ℕ) → ℕ
value_from s x m [] = 0
value_from s x m (y ∷ ys) = plus s.field (times s.field y (basis s m x)) (value_from s x (suc m) ys)

unfoldable pub value : Shape → (message : List ℕ) → (x : ℕ) → ℕ
value s ms x = value_from s x 0 ms

unfoldable pub symbol : Shape → (message : List ℕ) → (place : ℕ) → ℕ
symbol s ms p = value s ms (point s p)

unfoldable pub encoded : Shape → (message : List ℕ) → List ℕ
encoded s ms = tabulate (symbol s ms) s.n

pub record Codeword (s : Shape) (word : List ℕ) : Type 0 where
  pub message : List ℕ
  pub good : is_message s message ≡ true
  pub is : word ≡ encoded s message

unfoldable pub shared : Shape → (a b : List ℕ) → ℕ
shared s a b = count (λ p. eqb (at a p) (at b p)) s.n

unfoldable pub guarantee : Shape → ℕ
guarantee s = s.n - 1 - most_shared s
