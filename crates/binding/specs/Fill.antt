-- What the C function for a slot's weights writes. Assumes nothing: these are definitions.
--   weights_refusal c p l      questions 1 to 4 and 17, 5 of the l bytes, 7
--   WeightsFill c p x a z     == the sixteen bytes a have become the weights of slot p and zeros, or are unchanged on a refusal
use Rattle.std.specs.Prelude.{List, ℕ, ltb, eqb, length}
use Rattle.code.specs.declared.Code.{Code}
use Rattle.code.specs.Question.{ask, or_ask}
use Rattle.code.specs.Answer.{Fills}
use Rattle.code.specs.Family.{single, code_refusal}
use Rattle.code.specs.Repair.{weights}
use Rattle.weights.specs.Weights.{sixteen}

unfoldable pub weights_refusal : Code → (slot bytes : ℕ) → ℕ
weights_refusal c p l = or_ask (code_refusal c) (ask (eqb l 16) 5 (ask (ltb p c.n) 7 0))

unfoldable pub WeightsFill : Code → (slot x : ℕ) → (before after : List ℕ) → Type 0
WeightsFill c p x a z = Fills (weights_refusal c p (length a)) (sixteen (weights (single c) p)) x a z
