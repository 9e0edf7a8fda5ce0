-- What a call answers, and leaves in its buffer. Assumes nothing: these are definitions.
--   Answers n v x      == the answer x is the value v, or on a refusal n that number with the value 0
--   Fills n bs x a z   == the answer x is 0 and the buffer a has become bs, or on a refusal n it is n and the buffer is unchanged
use Rattle.std.specs.Prelude.{◌≡◌, cond, List, ℕ, zero, suc, eqb}
use Rattle.code.specs.declared.Answer.{Answer}

unfoldable pub Answers : (refusal value : ℕ) → Answer → Type 0
Answers n v x = (x.refusal ≡ n) × (x.value ≡ cond (eqb n 0) v 0)

unfoldable pub Fills : (refusal : ℕ) → (bytes : List ℕ) → (x : ℕ) → (before after : List ℕ) → Type 0
Fills zero bs x a z = (x ≡ 0) × (z ≡ bs)
Fills (suc n) bs x a z = (x ≡ suc n) × (z ≡ a)
