-- Codes whose groups are all whole, by themselves: the questions on their numbers, and what a short last group leaves as it is. Assumes nothing:
-- these are definitions and a statement.
--   whole_refusal c    questions 1 to 4 and 17 where n must be a multiple of r + 1
--   AsByItself c     a code of such a length is asked, encoded, repaired and counted on by the rules of whole groups alone
--   WholeStay         so is every code whose n is a multiple of r + 1
use Rattle.std.specs.Prelude.{◌≡◌, Bool, ◌&&◌, ℕ, ◌+◌, ◌*◌, ◌-◌, ◌/◌, ◌%◌, ◌<◌, leb, eqb, length}
use Rattle.field.specs.Field.{q, power}
use Rattle.code.specs.declared.Code.{Code}
use Rattle.code.specs.Question.{ask}
use Rattle.code.specs.Shape.{ceiling, groups, others, mates}
use Rattle.code.specs.Basis.{basis}
use Rattle.code.specs.Codeword.{guarantee}
use Rattle.code.specs.Family.{single, field_known, r_fits, wiring_fits, code_refusal}

-- 3: is n a multiple of r + 1, from r + 1 to q - 1?
unfoldable pub multiple_fits : Code → Bool
multiple_fits c = eqb (c.n % (c.r + 1)) 0 && (leb (c.r + 1) c.n && leb c.n (q c.field - 1))

-- 4: is k from 1 to r × n/(r + 1)?
unfoldable pub rate_fits : Code → Bool
rate_fits c = leb 1 c.k && leb c.k (c.r * (c.n / (c.r + 1)))

unfoldable pub whole_refusal : Code → ℕ
whole_refusal c =
    let s = single c in
    ask (field_known s) 1 (ask (r_fits s) 2 (ask (multiple_fits c) 3 (ask (rate_fits c) 4 (ask (wiring_fits s) 17 0))))

pub record AsByItself (c : Code) : Type 0 where
  pub questions : code_refusal c ≡ whole_refusal c
  pub exponents : (m x : ℕ) → basis (single c) m x ≡ power c.field x (m / c.r * (c.r + 1) + m % c.r)
  pub group_number : groups (single c) ≡ c.n / (c.r + 1)
  pub mates_all : code_refusal c ≡ 0 → (p : ℕ) → p < c.n → (mates (single c) p ≡ others (single c) p) × (length (mates (single c) p) ≡ c.r)
  pub sure : code_refusal c ≡ 0 → guarantee (single c) + (c.k + ceiling c.k c.r) ≡ c.n + 1

unfoldable pub WholeStay : Type 0
WholeStay = (c : Code) → c.n % (c.r + 1) ≡ 0 → AsByItself c
