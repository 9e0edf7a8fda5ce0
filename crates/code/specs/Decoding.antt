-- What decoding has to find: the messages whose codewords agree with all kept symbols; and which losses leave more than one, whatever the
-- symbols. Assumes nothing: these are definitions.
-- The paper's words: a mark says of a slot whether its symbol is an erasure; a lost slot is an erased one.
--   lost ms p            == slot p is lost: its mark is 1
--   agrees s cs ws ms    == the word cs has the symbols of ws at every kept slot
--   fits s ws ms xs      == xs is a message, and its codeword agrees
--   undecided s ms       == some two different codewords agree on the kept slots
use Rattle.std.specs.Prelude.{Bool, not, ◌&&◌, ◌||◌, List, ℕ, eqb}
use Rattle.algebra.specs.Sequence.{at, every}
use Rattle.code.specs.declared.Shape.{Shape}
use Rattle.code.specs.Codeword.{is_message, some_message, encoded, shared}

unfoldable pub lost : (marks : List ℕ) → (slot : ℕ) → Bool
lost ms p = eqb (at ms p) 1

unfoldable pub agrees : Shape → (codeword word marks : List ℕ) → Bool
agrees s cs ws ms = every (λ p. lost ms p || eqb (at cs p) (at ws p)) s.n

unfoldable pub fits : Shape → (word marks message : List ℕ) → Bool
fits s ws ms xs = is_message s xs && agrees s (encoded s xs) ws ms

-- the codewords of xs and ys differ, and have the same symbols at every kept slot
unfoldable pub confused : Shape → (marks xs ys : List ℕ) → Bool
confused s ms xs ys = not (eqb (shared s (encoded s xs) (encoded s ys)) s.n) && agrees s (encoded s xs) (encoded s ys) ms

unfoldable pub undecided : Shape → (marks : List ℕ) → Bool
undecided s ms = some_message s (λ xs. some_message s (λ ys. confused s ms xs ys))
