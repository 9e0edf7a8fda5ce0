-- How the C functions hand back an answer with a value, and a code. Assumes nothing: these are definitions.
--   unpacked x          == the answer with the high 32 bits of x for its refusal and the low 32 for its value
--   code_row c          == the numbers of a code, in order
use Rattle.std.specs.Prelude.{List, [], ◌∷◌, ℕ, ◌/◌, ◌%◌}
use Rattle.code.specs.declared.Code.{Code}
use Rattle.code.specs.declared.Answer.{Answer}

unfoldable pub unpacked : ℕ → Answer
unpacked x = record { refusal = x / 0x100000000; value = x % 0x100000000 }

unfoldable pub code_row : Code → List ℕ
code_row c = c.field ∷ c.r ∷ c.n ∷ c.k ∷ c.wiring ∷ []
