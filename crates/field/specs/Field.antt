-- The two fields of the code, on numbers below q. Assumes nothing: these are definitions.
--   field 0    GF(13): the numbers 0 to 12, modulo 13
--   field 1    GF(256): a byte is a polynomial over two elements, modulo the one with bits 11D (hexadecimal)
--   γ          the generator 2: its powers are all nonzero elements
use Rattle.std.specs.Prelude.{cond, ℕ, zero, suc, ◌+◌, ◌*◌, ◌-◌, ◌/◌, ◌%◌, ltb, eqb}

-- how many elements
unfoldable pub q : (field : ℕ) → ℕ
q zero = 13
q (suc f) = 256

unfoldable pub γ : ℕ
γ = 2

-- exclusive or of the lowest bits, as many as fuel
unfoldable pub xor_from : (fuel a b : ℕ) → ℕ
xor_from zero a b = 0
xor_from (suc k) a b = (a + b) % 2 + 2 * xor_from k (a / 2) (b / 2)

unfoldable pub plus : (field a b : ℕ) → ℕ
plus zero a b = (a + b) % 13
plus (suc f) a b = xor_from 8 a b

unfoldable pub minus : (field a b : ℕ) → ℕ
minus zero a b = (a + (13 - b % 13)) % 13
minus (suc f) a b = xor_from 8 a b

-- X times a byte: 29 is 11D less its leading bit
unfoldable pub doubled : ℕ → ℕ
doubled a = cond (ltb a 128) (2 * a) (xor_from 8 (2 * a - 256) 29)

-- x where the bit is 1, and 0 where it is not
abbrev pub pick : (bit x : ℕ) → ℕ
pick n x = cond (eqb n 1) x 0

-- the sum of a times X to the power i over the bits i of b
unfoldable pub times_from : (fuel a b : ℕ) → ℕ
times_from zero a b = 0
times_from (suc k) a b = xor_from 8 (pick (b % 2) a) (times_from k (doubled a) (b / 2))

unfoldable pub times : (field a b : ℕ) → ℕ
times zero a b = a * b % 13
times (suc f) a b = times_from 8 a b

unfoldable pub power : (field a e : ℕ) → ℕ
power f a zero = 1
power f a (suc e) = times f a (power f a e)

-- a to the power q - 2: 0 of 0
unfoldable pub inverse : (field a : ℕ) → ℕ
inverse f a = power f a (q f - 2)
