-- Strips of codewords, column by column. Assumes nothing.
--   column_message        a column of strips of symbols below q is a message
--   done_more             one column more
use mathlib.Core.Path.{◌≡◌, ap, ◌∙◌}
use mathlib.Core.Bool.{true}
use mathlib.Core.List.{List}
use Prim.Native.Nat.{ℕ, ◌+◌, ◌*◌, ◌<◌}
use native.Mathlib.Decide.{ℕ_discrete}
use native.Mathlib.Omega.{arith}
use lib.ListN.{length}
use Rattle.algebra.specs.Sequence.{at, column, all_below}
use Rattle.algebra.proofs.Booleans.{so}
use Rattle.field.specs.Field.{q}
use Rattle.code.specs.declared.Shape.{Shape}
use Rattle.code.specs.Codeword.{is_message, encoded}
use Rattle.code.proofs.Codewords.{is_message_of}
use Rattle.columns.proofs.Columns.{length_column, column_below}
use Rattle.strip_columns.specs.Column.{ColumnPut}
use Rattle.strip_columns.proofs.Done.{Done, apart}

pub column_message : (s : Shape) (l c : ℕ) (ms : List ℕ) → c < l → length ms ≡ s.k * l → all_below (q s.field) ms ≡ true
    → is_message s (column s.k l c ms) ≡ true
column_message s l c ms h e b =
    is_message_of s (column s.k l c ms)
    (record { length_is = length_column s.k l ms c; below = so (column_below s.k l ms c (q s.field) h e (so b)) })

pub done_more : (s : Shape) (l c : ℕ) (ms xs a z : List ℕ) → c < l → length xs ≡ s.n → xs ≡ encoded s (column s.k l c ms) → ColumnPut xs l c a z
    → Done s l ms c a → Done s l ms (c + 1) z
done_more s l c ms xs a z h k e P D = record { size = P.size ∙ D.size; own = λ p d b g f. go p d b g f (ℕ_discrete d c) }
  where
    go : (p d : ℕ) → p < s.n → d < c + 1 → d < l → Dec (d ≡ c) → at z (p * l + d) ≡ at (encoded s (column s.k l d ms)) p
    go p d b g f (yes q) = rw q (P.own p (omega arith) ∙ ap (λ ys. at ys p) e)
    go p d b g f (no q) = P.other (p * l + d) (λ m i. apart l p d m c f h q) ∙ D.own p d b (omega arith) f
