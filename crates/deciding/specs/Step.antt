-- Codewords that are 0 at every kept slot. Assumes nothing: these are definitions.
--   gaps s              == how many exponents below the largest no message symbol has
--   system_size s       == the bytes that a system of so many unknowns is solved in
--   Annuls s ms zs      == zs is a message whose codeword is 0 at every kept slot
--   Annulled s ms       the answer: none but 0 is so (true), or one that is not 0 (false)
use Rattle.std.specs.Prelude.{◌≡◌, ◌≢◌, Bool, true, false, List, ℕ, ◌+◌, ◌*◌, ◌-◌, ◌/◌, ◌<◌}
use Rattle.algebra.specs.Sequence.{at}
use Rattle.code.specs.declared.Shape.{Shape}
use Rattle.code.specs.Codeword.{is_message, symbol}

abbrev pub gaps : Shape → ℕ
gaps s = (s.k - 1) / s.r

abbrev pub system_size : Shape → ℕ
system_size s = gaps s * (gaps s + 1) + (gaps s + 1)

pub record Annuls (s : Shape) (ms zs : List ℕ) : Type 0 where
  pub message : is_message s zs ≡ true
  pub zeros : (p : ℕ) → p < s.n → at ms p ≢ 1 → symbol s zs p ≡ 0

pub data Annulled (s : Shape) (ms : List ℕ) : Bool → Type 0 where
  none : ((zs : List ℕ) → Annuls s ms zs → (i : ℕ) → at zs i ≡ 0) → Annulled s ms true
  some : (zs : List ℕ) (i : ℕ) → Annuls s ms zs → at zs i ≢ 0 → Annulled s ms false
