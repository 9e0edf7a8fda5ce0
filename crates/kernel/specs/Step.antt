-- Two strips with the weights 214 and 215, the cube roots of unity other than 1. Assumes nothing: these are definitions.
--   Roots w v          == w and v are 214 and 215, in one order or the other
--   root_sum xs l o i  == 214 (a + b) + c, over bytes: a and b the symbols of column i of two strips of l symbols, c the one at offset o
use Rattle.std.specs.Prelude.{◌≡◌, ◌⊎◌, List, ℕ, ◌+◌}
use Rattle.algebra.specs.Sequence.{at}
use Rattle.field.specs.Field.{xor_from, times_from}

abbrev pub Roots : (w v : ℕ) → Type 0
Roots w v = ((w ≡ 214) × (v ≡ 215)) ⊎ ((w ≡ 215) × (v ≡ 214))

abbrev pub root_sum : (xs : List ℕ) → (l o : ℕ) → ℕ → ℕ
root_sum xs l o i = xor_from 8 (times_from 8 214 (xor_from 8 (at xs i) (at xs (l + i)))) (at xs (o + i))
