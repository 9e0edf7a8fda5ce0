-- What is promised of the parity checks, for every code whose groups stand one loss. Each statement is a type; proofs/Promises.antt proves
-- them all. Assumes nothing: these are statements.
--   ChecksTell     symbols pass the checks just where some codeword has them at the mates
--   AnyMates       where k is r or more, and in a short group, some codeword has them whatever they are: no check is made
--   NotAllMates   everywhere else there are symbols that no codeword has
--   Promises        all of them
use Rattle.std.specs.Prelude.{◌≡◌, ◌⊎◌, true, false, List, ℕ, ◌≤◌, ◌<◌, length}
use Rattle.algebra.specs.Sequence.{at, all_below}
use Rattle.field.specs.Field.{q}
use Rattle.code.specs.declared.Shape.{Shape}
use Rattle.code.specs.Shape.{mates}
use Rattle.code.specs.Held.{held}
use Rattle.code.specs.Laws.{Decodable}
use Rattle.parity.specs.Parity.{checks, passes}

-- one symbol below q for each mate
abbrev pub Symbols : Shape → (slot : ℕ) → List ℕ → Type 0
Symbols s p ys = (length (mates s p) ≤ length ys) × ((i : ℕ) → i < length (mates s p) → at ys i < q s.field)

unfoldable pub ChecksTell : Type 0
ChecksTell = (s : Shape) (p : ℕ) (ys : List ℕ) → Decodable s → p < s.n → Symbols s p ys → held s (mates s p) ys ≡ passes s p ys

unfoldable pub AnyMates : Type 0
AnyMates =
    (s : Shape) (p : ℕ) (ys : List ℕ) → Decodable s → p < s.n → (s.r ≤ s.k) ⊎ (length (mates s p) < s.r) → Symbols s p ys
    → (checks s p ≡ 0) × (held s (mates s p) ys ≡ true)

-- such mates
pub record Untrue (s : Shape) (p : ℕ) : Type 0 where
  pub symbols : List ℕ
  pub long : length symbols ≡ length (mates s p)
  pub below : all_below (q s.field) symbols ≡ true
  pub none : held s (mates s p) symbols ≡ false

unfoldable pub NotAllMates : Type 0
NotAllMates = (s : Shape) (p : ℕ) → Decodable s → p < s.n → s.k < s.r → length (mates s p) ≡ s.r → Untrue s p

pub record Promises : Type 0 where
  pub checks_tell : ChecksTell
  pub any_mates : AnyMates
  pub not_all_mates : NotAllMates
