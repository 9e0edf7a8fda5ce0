-- What is to be said of a word with losses. Assumes nothing: these are definitions.
--   Verdict s ws ms a z  == 0: just one message fits, and z is it; 9: none fits; 10: two different ones do; z is a on 9 and 10
use Rattle.std.specs.Prelude.{◌≡◌, ◌≢◌, true, List, ℕ}
use Rattle.code.specs.Decoding.{fits}
use Rattle.code.specs.declared.Shape.{Shape}

pub data Verdict (s : Shape) (ws ms before after : List ℕ) : ℕ → Type 0 where
  one : fits s ws ms after ≡ true → ((ys : List ℕ) → fits s ws ms ys ≡ true → ys ≡ after) → Verdict s ws ms before after 0
  none : ((ys : List ℕ) → fits s ws ms ys ≡ true → ⊥) → after ≡ before → Verdict s ws ms before after 9
  more :
      (ys zs : List ℕ) → fits s ws ms ys ≡ true → fits s ws ms zs ≡ true → ys ≢ zs → after ≡ before
      → Verdict s ws ms before after 10
