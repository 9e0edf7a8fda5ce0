-- What is promised of the weights call, by its contract, where the numbers of the code are not refused; for every shape whose groups stand one loss.
-- Each statement is a type; proofs/Promises.antt proves them. Assumes nothing: these are statements.
--   WeightsHold        the weights are refused to no slot, and with the values at the mates of a polynomial of degree below r that is 0 at
--                       the places behind the slots they give its value at the slot
--   WeightsWhole       in whole groups these are r weights, for every polynomial of degree below r
--   Promises            all of them
use Rattle.std.specs.Prelude.{◌≡◌, true, List, map, ℕ, ◌≤◌, ◌<◌, length, take}
use Rattle.algebra.specs.Sequence.{all_below, In}
use Rattle.field.specs.Field.{q}
use Rattle.field.specs.Polynomial.{poly, dotted}
use Rattle.code.specs.Shape.{whole, point, others, mates}
use Rattle.code.specs.Laws.{Mending}
use Rattle.code.specs.declared.Shape.{Shape}
use Rattle.weights.specs.Weights.{WeightsSay}
use Rattle.weights.specs.RepairWeights.{RepairWeights}

unfoldable pub WeightsHold : Type 0
WeightsHold =
    (s : Shape) (p : ℕ) (x : RepairWeights) → Mending s → p < s.n → WeightsSay 0 s p x
    → (x.refusal ≡ 0)
    × ((cs : List ℕ) → length cs ≡ s.r → all_below (q s.field) cs ≡ true
    → ((o : ℕ) → In o (others s p) → s.n ≤ o → poly s.field cs (point s o) ≡ 0)
    → dotted s.field (take (length (mates s p)) x.weights) (map (λ m. poly s.field cs (point s m)) (mates s p)) ≡ poly s.field cs (point s p))

-- where groups are whole there are no places behind the slots
unfoldable pub WeightsWhole : Type 0
WeightsWhole =
    (s : Shape) (p : ℕ) (x : RepairWeights) → Mending s → whole s ≡ true → p < s.n → WeightsSay 0 s p x
    → (cs : List ℕ) → length cs ≡ s.r → all_below (q s.field) cs ≡ true
    → dotted s.field (take s.r x.weights) (map (λ m. poly s.field cs (point s m)) (mates s p)) ≡ poly s.field cs (point s p)

pub record Promises : Type 0 where
  pub weights_hold : WeightsHold
  pub weights_whole : WeightsWhole
