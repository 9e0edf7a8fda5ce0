-- The codes of the paper: their numbers, the shape that they mean, and the questions on the numbers. Assumes nothing: these are definitions.
--   code_of         the code of five numbers
--   single c        its shape: groups of r + 1 that stand one loss; the last one may be short
--   code_refusal    questions 1 to 4 and 17, in order
use Rattle.std.specs.Prelude.{Bool, cond, not, ◌&&◌, ◌||◌, ℕ, ◌+◌, ◌*◌, ◌-◌, ◌%◌, leb, eqb}
use Rattle.field.specs.Field.{q}
use Rattle.code.specs.declared.Code.{Code}
use Rattle.code.specs.declared.Shape.{Shape}
use Rattle.code.specs.Question.{ask}
use Rattle.code.specs.Shape.{size, groups, room, whole}

abbrev pub code_of : (field r n k wiring : ℕ) → Code
code_of f r n k w = record { field = f; r = r; n = n; k = k; wiring = w }

abbrev pub single : Code → Shape
single c = record { field = c.field; r = c.r; n = c.n; k = c.k; wiring = c.wiring; tolerance = 1; second = 0 }

-- 1: is the field 0 or 1?
unfoldable pub field_known : Shape → Bool
field_known s = leb s.field 1

-- 2: is r from 1 on, the group size at most 17, and does it divide q - 1?
unfoldable pub r_fits : Shape → Bool
r_fits s = (leb 1 s.r && leb (size s) 17) && eqb ((q s.field - 1) % size s) 0

-- 3: is there a slot, has the last group more than one, and are there points for whole groups?
unfoldable pub n_fits : Shape → Bool
n_fits s = (leb 1 s.n && not (eqb (s.n % size s) 1)) && leb (room s) (q s.field - 1)

-- the least k: 1, or where the last group is short one less than it has slots
unfoldable pub least : Shape → ℕ
least s = cond (whole s) 1 (s.n % size s - 1)

-- 4: is k from the least to n less one for each group (the tolerance, where groups stand more losses)?
unfoldable pub k_fits : Shape → Bool
k_fits s = leb (least s) s.k && leb (s.k + s.tolerance * groups s) s.n

-- 17: is the wiring 0, or 1 with n a multiple of the group size?
unfoldable pub wiring_fits : Shape → Bool
wiring_fits s = eqb s.wiring 0 || (eqb s.wiring 1 && eqb (s.n % size s) 0)

unfoldable pub code_refusal : Code → ℕ
code_refusal c =
    let s = single c in
    ask (field_known s) 1 (ask (r_fits s) 2 (ask (n_fits s) 3 (ask (k_fits s) 4 (ask (wiring_fits s) 17 0))))
