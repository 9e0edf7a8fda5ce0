-- What is promised of the local pass, by its contract, for every shape whose groups stand one loss. Each statement is a type;
-- proofs/Promises.antt proves them all. Assumes nothing: these are statements.
--   counted          a group that has exactly one loss, and whose kept symbols some codeword has
--   PassCounts      the number of groups repaired is the number of these
--   PassRestores    a group's only lost symbol is the codeword's after the pass, and kept, if the mates' are
--   PassLeaves      a group with exactly one loss stays as it was, and is not counted, where no codeword has the mates' symbols
--   PassKeeps       all else stays
--   PassAgrees      just the same codewords agree with the kept symbols before and after, whatever the word, and where the pass refuses it too
--   PassAccepts     where the numbers of the code are not refused, question 6 is passed where the symbols that are read are a codeword's
--   Promises         all of them
use Rattle.std.specs.Prelude.{◌≡◌, Bool, true, false, ◌&&◌, List, ℕ, ◌<◌, eqb, length}
use Rattle.algebra.specs.Sequence.{at, count, all_below}
use Rattle.code.specs.declared.Shape.{Shape}
use Rattle.code.specs.declared.Answer.{Answer}
use Rattle.code.specs.Shape.{groups, group, mates}
use Rattle.code.specs.Codeword.{encoded, Codeword}
use Rattle.code.specs.Decoding.{lost, agrees}
use Rattle.code.specs.Erasure.{group_losses}
use Rattle.code.specs.Repair.{symbols_of}
use Rattle.code.specs.Held.{held}
use Rattle.code.specs.Pass.{kept_places, mends}
use Rattle.code.specs.Laws.{Family, Mending}
use Rattle.code.specs.Promise.{Message}
use Rattle.pass.specs.Pass.{reads, PassSays}

unfoldable pub counted : Shape → (word marks : List ℕ) → (group : ℕ) → Bool
counted s ws ms j = eqb (group_losses s j ms) 1 && held s (kept_places s ms j) (symbols_of ws (kept_places s ms j))

unfoldable pub PassCounts : Type 0
PassCounts =
    (n : ℕ) (s : Shape) (ws ms : List ℕ) (x : Answer) (ws' ms' : List ℕ) → Mending s → PassSays n s ws ms x ws' ms' → x.refusal ≡ 0
    → x.value ≡ count (counted s ws ms) (groups s)

-- what may become of the other groups is not asked
unfoldable pub PassRestores : Type 0
PassRestores =
    (n : ℕ) (s : Shape) (xs ws ms : List ℕ) (x : Answer) (ws' ms' : List ℕ) (p : ℕ) → Family s → Mending s → Message s xs → p < s.n
    → PassSays n s ws ms x ws' ms' → x.refusal ≡ 0 → lost ms p ≡ true → group_losses s (group s p) ms ≡ 1
    → symbols_of ws (mates s p) ≡ symbols_of (encoded s xs) (mates s p) → (at ws' p ≡ at (encoded s xs) p) × (at ms' p ≡ 0)

unfoldable pub PassLeaves : Type 0
PassLeaves =
    (n : ℕ) (s : Shape) (ws ms : List ℕ) (x : Answer) (ws' ms' : List ℕ) (p : ℕ) → Mending s → p < s.n → PassSays n s ws ms x ws' ms'
    → x.refusal ≡ 0 → lost ms p ≡ true → group_losses s (group s p) ms ≡ 1 → held s (mates s p) (symbols_of ws (mates s p)) ≡ false
    → (counted s ws ms (group s p) ≡ false)
    × ((o : ℕ) → o < s.n → group s o ≡ group s p → (at ws' o ≡ at ws o) × (at ms' o ≡ at ms o))

unfoldable pub PassKeeps : Type 0
PassKeeps =
    (n : ℕ) (s : Shape) (ws ms : List ℕ) (x : Answer) (ws' ms' : List ℕ) (p : ℕ) → p < s.n → PassSays n s ws ms x ws' ms' → mends s ws ms p ≡ false
    → (at ws' p ≡ at ws p) × (at ms' p ≡ at ms p)

unfoldable pub PassAgrees : Type 0
PassAgrees =
    (n : ℕ) (s : Shape) (ws ms : List ℕ) (x : Answer) (ws' ms' cs : List ℕ) → (n ≡ 0 → Family s) → Codeword s cs → PassSays n s ws ms x ws' ms'
    → agrees s cs ws ms ≡ agrees s cs ws' ms'

unfoldable pub PassAccepts : Type 0
PassAccepts =
    (s : Shape) (xs ws ms : List ℕ) (x : Answer) (ws' ms' : List ℕ) → length ws ≡ s.n → length ms ≡ s.n → all_below 2 ms ≡ true
    → ((p : ℕ) → p < s.n → reads s ms p ≡ true → at ws p ≡ at (encoded s xs) p) → PassSays 0 s ws ms x ws' ms' → x.refusal ≡ 0

pub record Promises : Type 0 where
  pub pass_counts : PassCounts
  pub pass_restores : PassRestores
  pub pass_leaves : PassLeaves
  pub pass_keeps : PassKeeps
  pub pass_agrees : PassAgrees
  pub pass_accepts : PassAccepts
