-- Where the symbols stand: repair groups, members, slots, evaluation points. Assumes nothing: these are definitions.
-- The paper's words: a slot is a coordinate of the codeword, a group a repair group, a point an evaluation point; the mates of a slot are
-- the other members of its repair group; the wiring is how the groups are placed, 1 an interleaved placement.
-- Whole groups have size members. Where n is not a multiple of size the last group is short: the places behind the last slot,
-- n to room - 1, are no slots, and every codeword is 0 there (a shortened code).
--   size, groups, room, missing    members of a whole group; groups; places of whole groups; those that are no slots
--   group, member, slot_at         of a place, by the wiring: 0 group by group, 1 spread over the shelves
--   first, step                    a group's places are first, first + step, first + 2 step ..: loops run over these two numbers
--   members s j                    how many members of group j are slots
--   point_at, point                γ to the power j + i × (q - 1)/size
--   others s p, mates s p          the other places of p's group, in order; those of them that are slots
--   mates_number s p               how many symbols repair is handed for p
use Rattle.std.specs.Prelude.{Bool, cond, List, [], ◌∷◌, ℕ, zero, suc, ◌+◌, ◌*◌, ◌-◌, ◌/◌, ◌%◌, ltb, eqb, length, take}
use Rattle.algebra.specs.Sequence.{count}
use Rattle.field.specs.Field.{q, γ, power}
use Rattle.code.specs.declared.Shape.{Shape}

unfoldable pub ceiling : (a b : ℕ) → ℕ
ceiling a b = (a + b - 1) / b

unfoldable pub size : Shape → ℕ
size s = s.r + s.tolerance

unfoldable pub groups : Shape → ℕ
groups s = ceiling s.n (size s)

unfoldable pub room : Shape → ℕ
room s = groups s * size s

unfoldable pub missing : Shape → ℕ
missing s = room s - s.n

unfoldable pub whole : Shape → Bool
whole s = eqb (missing s) 0

unfoldable pub wired : Shape → Bool
wired s = eqb s.wiring 1

unfoldable pub group : Shape → (place : ℕ) → ℕ
group s p = cond (wired s) (p % groups s) (p / size s)

unfoldable pub member : Shape → (place : ℕ) → ℕ
member s p = cond (wired s) (p / groups s) (p % size s)

unfoldable pub first : Shape → (group : ℕ) → ℕ
first s j = cond (wired s) j (j * size s)

unfoldable pub step : Shape → ℕ
step s = cond (wired s) (groups s) 1

unfoldable pub slot_at : Shape → (group member : ℕ) → ℕ
slot_at s j i = first s j + i * step s

unfoldable pub members : Shape → (group : ℕ) → ℕ
members s j = count (λ i. ltb (slot_at s j i) s.n) (size s)

unfoldable pub point_at : Shape → (group member : ℕ) → ℕ
point_at s j i = power s.field γ (j + i * ((q s.field - 1) / size s))

unfoldable pub point : Shape → (place : ℕ) → ℕ
point s p = point_at s (group s p) (member s p)

-- the members of group j from member i on, but for member o
unfoldable pub others_from : Shape → (left i : ℕ) → (j o : ℕ) → List ℕ
others_from s zero i j o = []
others_from s (suc l) i j o = cond (eqb i o) (others_from s l (suc i) j o) (slot_at s j i ∷ others_from s l (suc i) j o)

unfoldable pub others : Shape → (place : ℕ) → List ℕ
others s p = others_from s (size s) 0 (group s p) (member s p)

-- a short group keeps its first members
unfoldable pub mates : Shape → (slot : ℕ) → List ℕ
mates s p = take (members s (group s p) - 1) (others s p)

-- how many symbols repair is handed: where there is no such slot, as many as for a slot of a whole group
unfoldable pub mates_number : Shape → (slot : ℕ) → ℕ
mates_number s p = cond (ltb p s.n) (length (mates s p)) (size s - 1)
