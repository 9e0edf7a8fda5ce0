-- From the coefficients of the interpolation polynomial to a message. Assumes nothing: these are definitions.
--   Pointed s t xs   == xs holds the points of the first t slots, counted group by group
--   gap s j          == the exponent behind block j of r message symbols, which no message symbol has
--   gaps_zero s cs   == the coefficients cs are 0 at the gaps
--   message_of s cs  == the coefficients at the exponents of the message symbols
use Rattle.std.specs.Prelude.{◌≡◌, Bool, List, ℕ, ◌+◌, ◌*◌, ◌-◌, ◌/◌, ◌<◌, eqb}
use Rattle.algebra.specs.Sequence.{at, tabulate, every}
use Rattle.code.specs.Shape.{size, group, member, point}
use Rattle.code.specs.Basis.{exponent}
use Rattle.code.specs.declared.Shape.{Shape}

abbrev pub Pointed : Shape → (number : ℕ) → (points : List ℕ) → Type 0
Pointed s t xs = (p : ℕ) → p < s.n → group s p * size s + member s p < t → at xs p ≡ point s p

unfoldable pub gap : Shape → (block : ℕ) → ℕ
gap s j = j * size s + s.r

unfoldable pub gaps_zero : Shape → (coefs : List ℕ) → Bool
gaps_zero s cs = every (λ j. eqb (at cs (gap s j)) 0) ((s.k - 1) / s.r)

unfoldable pub message_of : Shape → (coefs : List ℕ) → List ℕ
message_of s cs = tabulate (λ m. at cs (exponent s m)) s.k
