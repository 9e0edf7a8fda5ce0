-- What private steps of the local pass do, in one group's span of the word and the marks. Assumes nothing: these are definitions.
-- Member i of the group stands at i × step of its span.
--   part_held s j ws ms      == some codeword has the symbols of the mates of each lost member
--   part_mended s j ws ms    == the pass repairs group j
--   MembersSet s j f xs ys  == ys has f's values at the group's members, and is xs else
--   GroupMended s j ..      == what the pass does in group j
use Rattle.std.specs.Prelude.{◌≡◌, ◌≢◌, Bool, cond, not, ◌&&◌, ◌||◌, List, ℕ, ◌*◌, ◌<◌, length}
use Rattle.algebra.specs.Sequence.{at, every}
use Rattle.code.specs.declared.Shape.{Shape}
use Rattle.code.specs.Shape.{step, members, slot_at, mates}
use Rattle.code.specs.Decoding.{lost}
use Rattle.code.specs.Repair.{repaired}
use Rattle.code.specs.Held.{held}
use Rattle.spans.specs.Span.{lone, part_mates}

unfoldable pub part_held : Shape → (group : ℕ) → (part marks : List ℕ) → Bool
part_held s j ws ms = every (λ i. not (lost ms (i * step s)) || held s (mates s (slot_at s j i)) (part_mates s j i ws)) (members s j)

unfoldable pub part_mended : Shape → (group : ℕ) → (part marks : List ℕ) → Bool
part_mended s j ws ms = lone s j ms && part_held s j ws ms

pub record MembersSet (s : Shape) (j : ℕ) (f : ℕ → ℕ) (xs ys : List ℕ) : Type 0 where
  pub same : length ys ≡ length xs
  pub own : (i : ℕ) → i < members s j → at ys (i * step s) ≡ f i
  pub other : (p : ℕ) → ((i : ℕ) → i < members s j → p ≢ i * step s) → at ys p ≡ at xs p

-- entry i of the group's members in xs, or g's value where the group is mended and member i lost
abbrev pub instead : Shape → (mended : Bool) → (marks : List ℕ) → (g : ℕ → ℕ) → (xs : List ℕ) → ℕ → ℕ
instead s b ms g xs i = cond (lost ms (i * step s) && b) (g i) (at xs (i * step s))

-- ws and ms are the symbols and marks of group j before, ws' and ms' after, and x is how many groups were repaired
pub record GroupMended (s : Shape) (j : ℕ) (ws ms : List ℕ) (x : ℕ) (ws' ms' : List ℕ) : Type 0 where
  pub number : x ≡ cond (part_mended s j ws ms) 1 0
  pub word : MembersSet s j (instead s (part_mended s j ws ms) ms (λ i. repaired s (slot_at s j i) (part_mates s j i ws)) ws) ws ws'
  pub marks : MembersSet s j (instead s (part_mended s j ws ms) ms (λ i. 0) ms) ms ms'
