-- Repair weights, repaired symbols and strips. Assumes nothing: these are definitions.
--   restored s os ms p xs   == the value at the point of p of the polynomial through xs at the places ms and 0 at the rest of os
--   weights s p             == the repair weights of p's mates: Lagrange's over all other places of the group
--   repaired s p xs         == the symbol of slot p from its mates' symbols xs
--   strip s p l xs          == L symbols, each the repair of its column
use Rattle.std.specs.Prelude.{cond, List, [], ◌∷◌, map, ℕ, eqb, length}
use Rattle.algebra.specs.Sequence.{at, tabulate, column}
use Rattle.field.specs.Field.{minus, times, inverse}
use Rattle.field.specs.Polynomial.{dotted}
use Rattle.code.specs.declared.Shape.{Shape}
use Rattle.code.specs.Shape.{point, others, mates}

-- the product of (x - y) / (z - y) over the points y of the places of os other than m
unfoldable pub weight_over : Shape → (x z : ℕ) → (m : ℕ) → (os : List ℕ) → ℕ
weight_over s x z m [] = 1
weight_over s x z m (o ∷ os) =
    let f = s.field in
    let y = point s o in
    cond (eqb o m) (weight_over s x z m os) (times f (times f (minus f x y) (inverse f (minus f z y))) (weight_over s x z m os))

unfoldable pub weights_over : Shape → (others mates : List ℕ) → (place : ℕ) → List ℕ
weights_over s os ms p = map (λ m. weight_over s (point s p) (point s m) m os) ms

unfoldable pub restored : Shape → (others mates : List ℕ) → (place : ℕ) → (symbols : List ℕ) → ℕ
restored s os ms p xs = dotted s.field (weights_over s os ms p) xs

unfoldable pub weights : Shape → (slot : ℕ) → List ℕ
weights s p = weights_over s (others s p) (mates s p) p

unfoldable pub repaired : Shape → (slot : ℕ) → (symbols : List ℕ) → ℕ
repaired s p xs = restored s (others s p) (mates s p) p xs

unfoldable pub symbols_of : (word : List ℕ) → (slots : List ℕ) → List ℕ
symbols_of ws ps = map (at ws) ps

unfoldable pub strip : Shape → (slot l : ℕ) → List ℕ → List ℕ
strip s p l xs = tabulate (λ i. repaired s p (column (length (mates s p)) l i xs)) l
