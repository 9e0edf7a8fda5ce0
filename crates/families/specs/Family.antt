-- The families of codes that no call serves yet: which shape the numbers mean, and the questions on them. Assumes nothing: these are definitions.
--   double c          groups of r + 2 that stand two losses
--   two_way f u v k   two group sizes: the wired whole code of length q - 1 with groups of u, less the exponents that v forbids
--   double_refusal c, sizes_refusal f u v k    the questions on them, in order
use Rattle.std.specs.Prelude.{Bool, not, ◌&&◌, ℕ, ◌+◌, ◌*◌, ◌-◌, ◌/◌, ◌%◌, leb, eqb}
use Rattle.algebra.specs.Sequence.{every}
use Rattle.field.specs.Field.{q}
use Rattle.code.specs.declared.Code.{Code}
use Rattle.code.specs.declared.Shape.{Shape}
use Rattle.code.specs.Question.{ask}
use Rattle.code.specs.Shape.{whole}
use Rattle.code.specs.Family.{field_known, r_fits, n_fits, k_fits}

abbrev pub double : Code → Shape
double c = record { field = c.field; r = c.r; n = c.n; k = c.k; wiring = c.wiring; tolerance = 2; second = 0 }

abbrev pub two_way : (field u v k : ℕ) → Shape
two_way f u v k = record { field = f; r = u - 1; n = q f - 1; k = k; wiring = 1; tolerance = 1; second = v }

-- whole groups and wiring 0 only
unfoldable pub double_refusal : Code → ℕ
double_refusal c =
    let s = double c in
    ask (field_known s) 1 (ask (r_fits s) 2 (ask (n_fits s && whole s) 3 (ask (k_fits s) 4 (ask (eqb s.wiring 0) 17 0))))

-- 21: are both sizes from 2 to 17, do they divide q - 1, and is no number from 2 on a factor of both?
unfoldable pub size_fits : (field u : ℕ) → Bool
size_fits f u = (leb 2 u && leb u 17) && eqb ((q f - 1) % u) 0

unfoldable pub coprime : (u v : ℕ) → Bool
coprime u v = every (λ d. not (eqb (u % (d + 2)) 0 && eqb (v % (d + 2)) 0)) u

-- 22: is k from 1 to n × (u - 1) × (v - 1) / (u × v)?
unfoldable pub sizes_refusal : (field u v k : ℕ) → ℕ
sizes_refusal f u v k =
    ask (leb f 1) 1
    (ask ((size_fits f u && size_fits f v) && coprime u v) 21
    (ask (leb 1 k && leb k ((q f - 1) * (u - 1) * (v - 1) / (u * v))) 22 0))
