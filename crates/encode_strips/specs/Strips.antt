-- What encode of strips answers and writes. Assumes nothing: these are definitions.
-- Strips lie behind each other: column c of m strips of l symbols is one symbol of each.
--   strips_are l n b              == b symbols are n strips of l, with l from 1 to 4,096
--   encode_strips_refusal n s ms b  the refusal n of the code's numbers, then 5: k strips of messages and room for n strips of one length; 6: symbols
--                                 below q
--   EncodeStripsSays            == the answer x is 0 and the buffer a has become these strips z, or x is the refusal and z is a
use Rattle.std.specs.Prelude.{Bool, ◌&&◌, List, ℕ, ◌*◌, ◌/◌, eqb, leb, length}
use Rattle.algebra.specs.Sequence.{all_below}
use Rattle.field.specs.Field.{q}
use Rattle.code.specs.Question.{ask, or_ask}
use Rattle.code.specs.Answer.{Fills}
use Rattle.code.specs.declared.Shape.{Shape}
use Rattle.strip_columns.specs.Strips.{encoded_strips}

unfoldable pub strips_are : (l n b : ℕ) → Bool
strips_are l n b = (leb 1 l && leb l 4096) && eqb b (n * l)

unfoldable pub encode_strips_refusal : (refusal : ℕ) → Shape → (messages : List ℕ) → (codewords : ℕ) → ℕ
encode_strips_refusal n s ms b =
    let l = b / s.n in
    or_ask n
    (ask (strips_are l s.n b && eqb (length ms) (s.k * l)) 5
    (ask (all_below (q s.field) ms) 6 0))

unfoldable pub EncodeStripsSays : (refusal : ℕ) → Shape → (messages : List ℕ) → (x : ℕ) → (before after : List ℕ) → Type 0
EncodeStripsSays n s ms x a z = Fills (encode_strips_refusal n s ms (length a)) (encoded_strips s (length a / s.n) ms) x a z
