-- What the call for a slot's repair weights answers. Assumes nothing: these are definitions.
--   sixteen ws             == the list ws with zeros after it, sixteen entries in all
--   weights_refusal n s p  the refusal n of the code's numbers, 7
--   WeightsSay n s p x    == the answer x is the weights of slot p, or a refusal and sixteen zeros
use Rattle.std.specs.Prelude.{◌≡◌, cond, List, [], ℕ, ltb, eqb}
use Rattle.algebra.specs.Sequence.{at, tabulate}
use Rattle.code.specs.Question.{ask, or_ask}
use Rattle.code.specs.Repair.{weights}
use Rattle.code.specs.declared.Shape.{Shape}
use Rattle.weights.specs.RepairWeights.{RepairWeights}

unfoldable pub sixteen : List ℕ → List ℕ
sixteen ws = tabulate (at ws) 16

unfoldable pub weights_refusal : (refusal : ℕ) → Shape → (slot : ℕ) → ℕ
weights_refusal n s p = or_ask n (ask (ltb p s.n) 7 0)

pub record WeightsSay (n : ℕ) (s : Shape) (p : ℕ) (x : RepairWeights) : Type 0 where
  pub refusal : x.refusal ≡ weights_refusal n s p
  pub weights : x.weights ≡ sixteen (cond (eqb (weights_refusal n s p) 0) (weights s p) [])
