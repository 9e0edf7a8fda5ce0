-- What encode answers and writes, after the questions on the numbers of a code, and for the shape that they mean. Assumes nothing:
-- these are definitions.
--   encode_refusal n s ms l  == the refusal n of those questions; else 5: k message symbols, a buffer of as many bytes as slots; 6: symbols below q
--   EncodeSays n s ms x a z == the answer x is 0 and the buffer a has become the codeword z, or x is the refusal and z is a
use Rattle.std.specs.Prelude.{◌&&◌, List, ℕ, eqb, length}
use Rattle.algebra.specs.Sequence.{all_below}
use Rattle.field.specs.Field.{q}
use Rattle.code.specs.Question.{ask, or_ask}
use Rattle.code.specs.Answer.{Fills}
use Rattle.code.specs.Codeword.{encoded}
use Rattle.code.specs.declared.Shape.{Shape}

unfoldable pub encode_refusal : (refusal : ℕ) → Shape → (message : List ℕ) → (codeword : ℕ) → ℕ
encode_refusal n s ms l =
    or_ask n
    (ask (eqb (length ms) s.k && eqb l s.n) 5
    (ask (all_below (q s.field) ms) 6 0))

unfoldable pub EncodeSays : (refusal : ℕ) → Shape → (message : List ℕ) → (x : ℕ) → (before after : List ℕ) → Type 0
EncodeSays n s ms x a z = Fills (encode_refusal n s ms (length a)) (encoded s ms) x a z
