-- The promises of encode of strips. Assumes nothing.
--   column_encoded   a column of strips of codewords is the codeword of its column
--   promises         all of them
use mathlib.Core.Path.{◌≡◌, sym, ap, ap₂, ◌∙◌}
use mathlib.Core.List.{List}
use Prim.Native.Nat.{ℕ, ◌+◌, ◌*◌, ◌/◌, ◌%◌, ◌<◌}
use native.Mathlib.Omega.{arith}
use lib.Arith.{digits_div, digits_mod}
use lib.ListN.{length}
use Rattle.algebra.specs.Sequence.{at, column, all_below}
use Rattle.algebra.proofs.Booleans.{yes_true}
use Rattle.algebra.proofs.Strides.{row_step}
use Rattle.algebra.proofs.Tabulate.{at_tabulate, tabulate_same}
use Rattle.field.specs.Field.{q}
use Rattle.code.specs.declared.Shape.{Shape}
use Rattle.code.specs.Codeword.{symbol, encoded}
use Rattle.code.proofs.Answers.{fills_in}
use Rattle.code.proofs.Codewords.{at_encoded}
use Rattle.encode.proofs.Refusal.{encode_fills}
use Rattle.strip_columns.specs.Strips.{encoded_strips}
use Rattle.encode_strips.specs.Strips.{encode_strips_refusal, EncodeStripsSays}
use Rattle.encode_strips.specs.Promise.{EncodesColumns, SameAsEncode, Promises}
use Rattle.encode_strips.proofs.Refusal.{strips_passed}
use Rattle.encode_strips.proofs.Columns.{column_message}

pub column_encoded : (s : Shape) (l : ℕ) (ms : List ℕ) (c : ℕ) → c < l → column s.n l c (encoded_strips s l ms) ≡ encoded s (column s.k l c ms)
unfolding column encoded encoded_strips
column_encoded s l ms c h = tabulate_same 0 (λ m. at (encoded_strips s l ms) (m * l + c)) (symbol s (column s.k l c ms)) s.n (λ m b. entry m b)
  where
    entry : (m : ℕ) → m < s.n → at (encoded_strips s l ms) (m * l + c) ≡ symbol s (column s.k l c ms) m
    entry m b =
        at_tabulate (λ x. at (encoded s (column s.k l (x % l) ms)) (x / l)) 0 (s.n * l) (m * l + c) (omega (arith, row_step m s.n l b))
        ∙ ap₂ (λ d p. at (encoded s (column s.k l d ms)) p) (digits_mod m h) (digits_div m h)
        ∙ at_encoded s (column s.k l c ms) m b

encodes_columns : EncodesColumns
unfolding EncodesColumns EncodeStripsSays
encodes_columns n s ms x a z e says =
    let l = length a / s.n in
    let f = fills_in (encode_strips_refusal n s ms (length a)) (encoded_strips s l ms) x a z e says in
    (f.0, λ c h. ap (column s.n l c) f.1 ∙ column_encoded s l ms c h)

same_as_encode : SameAsEncode
unfolding SameAsEncode EncodesColumns
same_as_encode n s ms x a z e says c y b w h k one =
    let l = length a / s.n in
    let xs = column s.k l c ms in
    let P = strips_passed n s ms (length a) e in
    let f = encode_fills n s xs y b w P.accepted (column_message s l c ms h P.size (yes_true (all_below (q s.field) ms) P.below)) k one in
    (f.0, f.1 ∙ sym ((encodes_columns n s ms x a z e says).1 c h))

pub promises : Promises
promises = record { encodes_columns = encodes_columns; same_as_encode = same_as_encode }
