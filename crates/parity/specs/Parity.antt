-- Parity checks of the symbols at a slot's mates. Assumes nothing: these are definitions.
--   checks_with s m       == how many checks a slot with m mates has: r - k where they are r, none where k is r or more or the group is short
--   checks s p            == how many slot p has
--   term s l x            == x to the power l + 1; where the last group is short, x to the power l divided by h at x
--   check_weights s p l   == the weights of check l: the repair weight of the mate, times its term less the slot's
--   passes s p ys         == for each check the sum of weight times symbol is 0
use Rattle.std.specs.Prelude.{Bool, cond, List, map, ℕ, ◌-◌, eqb, length, take}
use Rattle.algebra.specs.Sequence.{every}
use Rattle.field.specs.Field.{minus, times, power, inverse}
use Rattle.field.specs.Polynomial.{dotted}
use Rattle.code.specs.declared.Shape.{Shape}
use Rattle.code.specs.Shape.{whole, point, others, mates}
use Rattle.code.specs.Basis.{vanishing}
use Rattle.code.specs.Repair.{weight_over}

unfoldable pub checks_with : Shape → (number : ℕ) → ℕ
checks_with s m = cond (eqb m s.r) (s.r - s.k) 0

unfoldable pub checks : Shape → (slot : ℕ) → ℕ
checks s p = checks_with s (length (mates s p))

unfoldable pub scale : Shape → (x : ℕ) → ℕ
scale s x = cond (whole s) x (inverse s.field (vanishing s x))

unfoldable pub term : Shape → (l x : ℕ) → ℕ
term s l x = times s.field (scale s x) (power s.field x l)

unfoldable pub check_weight : Shape → (slot l mate : ℕ) → ℕ
check_weight s p l m =
    let f = s.field in
    times f (weight_over s (point s p) (point s m) m (others s p)) (minus f (term s l (point s m)) (term s l (point s p)))

unfoldable pub check_weights : Shape → (slot l : ℕ) → List ℕ
check_weights s p l = map (check_weight s p l) (mates s p)

unfoldable pub passes : Shape → (slot : ℕ) → (symbols : List ℕ) → Bool
passes s p ys = every (λ l. eqb (dotted s.field (check_weights s p l) (take (length (mates s p)) ys)) 0) (checks s p)
