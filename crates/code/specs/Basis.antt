-- The basis polynomials, and the largest degree. Assumes nothing: these are definitions.
--   exponent s m    whole groups: (m div r) × size + (m mod r); with a second size the number m of those e with
--                   e mod size not size - 1 and e mod second not second - 1
--   good, vanishing short last group: g = X to the power r + 1 less c, and h, the product of X - β over the missing points β
--   lead s          the message symbols that go with g to the power j times X to the power i; the rest go with h × X to the power i
--   basis s m x     the value at x of the polynomial of message symbol m
--   degree s        the largest degree: that of symbol k' - 1 of whole groups, k' = k + missing
--   most_shared s   the most places that two codewords share: the missing ones are roots too
use Rattle.std.specs.Prelude.{Bool, cond, ◌&&◌, ℕ, zero, suc, ◌+◌, ◌*◌, ◌-◌, ◌/◌, ◌%◌, ltb, eqb}
use Rattle.field.specs.Field.{γ, minus, times, power}
use Rattle.code.specs.declared.Shape.{Shape}
use Rattle.code.specs.Search.{nth}
use Rattle.code.specs.Shape.{size, groups, room, missing, whole, point}

-- the exponents of codes with two group sizes
unfoldable pub free : (u v e : ℕ) → Bool
free u v e = ltb (e % u) (u - 1) && ltb (e % v) (v - 1)

unfoldable pub exponent : Shape → (m : ℕ) → ℕ
exponent s m = cond (eqb s.second 0) (m / s.r * size s + m % s.r) (nth (free (size s) s.second) (room s) m)

-- c: the power r + 1 of the last group's points
unfoldable pub constant : Shape → ℕ
constant s = power s.field γ ((groups s - 1) * size s)

unfoldable pub good : Shape → (x : ℕ) → ℕ
good s x = minus s.field (power s.field x (size s)) (constant s)

unfoldable pub vanish_from : Shape → (left p x : ℕ) → ℕ
vanish_from s zero p x = 1
vanish_from s (suc l) p x = times s.field (minus s.field x (point s p)) (vanish_from s l (suc p) x)

unfoldable pub vanishing : Shape → (x : ℕ) → ℕ
vanishing s x = vanish_from s (missing s) s.n x

unfoldable pub lead : Shape → ℕ
lead s = s.k + missing s - s.r

unfoldable pub whole_basis : Shape → (m x : ℕ) → ℕ
whole_basis s m x = power s.field x (exponent s m)

unfoldable pub short_basis : Shape → (m x : ℕ) → ℕ
short_basis s m x =
    let f = s.field in
    cond (ltb m (lead s)) (times f (power f (good s x) (1 + m / s.r)) (power f x (m % s.r)))
    (times f (vanishing s x) (power f x (m - lead s)))

unfoldable pub basis : Shape → (m x : ℕ) → ℕ
basis s m x = cond (whole s) (whole_basis s m x) (short_basis s m x)

unfoldable pub degree : Shape → ℕ
degree s = exponent s (s.k + missing s - 1)

unfoldable pub most_shared : Shape → ℕ
most_shared s = degree s - missing s
