-- What is promised of encode of strips, by its contract. Each statement is a type; proofs/Promises.antt proves them all. Assumes nothing: these
-- are statements.
--   EncodesColumns   strips that are not refused: the answer is 0, and every column of the buffer is the codeword of its column of the messages
--   SameAsEncode    and it is what encode leaves in its buffer when it is handed that column
--   Promises          all of them
use Rattle.std.specs.Prelude.{◌≡◌, List, ℕ, ◌/◌, ◌<◌, length}
use Rattle.algebra.specs.Sequence.{column}
use Rattle.code.specs.declared.Shape.{Shape}
use Rattle.code.specs.Codeword.{encoded}
use Rattle.encode.specs.Encode.{EncodeSays}
use Rattle.encode_strips.specs.Strips.{encode_strips_refusal, EncodeStripsSays}

-- l is the length of a strip
unfoldable pub EncodesColumns : Type 0
EncodesColumns =
    (n : ℕ) (s : Shape) (ms : List ℕ) (x : ℕ) (a z : List ℕ) → encode_strips_refusal n s ms (length a) ≡ 0 → EncodeStripsSays n s ms x a z
    → let l = length a / s.n in (x ≡ 0) × ((c : ℕ) → c < l → column s.n l c z ≡ encoded s (column s.k l c ms))

unfoldable pub SameAsEncode : Type 0
SameAsEncode =
    (n : ℕ) (s : Shape) (ms : List ℕ) (x : ℕ) (a z : List ℕ) → encode_strips_refusal n s ms (length a) ≡ 0 → EncodeStripsSays n s ms x a z
    → let l = length a / s.n in (c y : ℕ) (b w : List ℕ) → c < l → length b ≡ s.n → EncodeSays n s (column s.k l c ms) y b w
    → (y ≡ 0) × (w ≡ column s.n l c z)

pub record Promises : Type 0 where
  pub encodes_columns : EncodesColumns
  pub same_as_encode : SameAsEncode
