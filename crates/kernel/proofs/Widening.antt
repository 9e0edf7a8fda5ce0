-- Short strips laid out wider, and the sums over them. Assumes nothing.
--   Widened xs l j a z             == the strips below j of l symbols lie at every 64th place of z
--   combined_widened               the sums over the strips laid out wider, copied
use mathlib.Core.Path.{◌≡◌, sym, ap, ◌∙◌}
use mathlib.Core.List.{List}
use Prim.Native.Nat.{ℕ, ◌+◌, ◌*◌, ◌≤◌, ◌<◌}
use native.Mathlib.Nat.{zero-add}
use native.Mathlib.Omega.{arith}
use lib.ListN.{length, take}
use Rattle.algebra.specs.Sequence.{at, column}
use Rattle.algebra.specs.Writing.{Laid}
use Rattle.algebra.proofs.Tabulate.{tabulate_is, tabulate_same, at_table}
use Rattle.algebra.proofs.Writing.{laid_at}
use Rattle.field.specs.Polynomial.{dotted}
use Rattle.tiles.specs.Columns.{Combined}

-- strips of l symbols laid out at every 64th place: those below j
pub record Widened (xs : List ℕ) (l j : ℕ) (a z : List ℕ) : Type 0 where
  pub size : length z ≡ length a
  pub done : (k i : ℕ) → k < j → i < l → at z (k * 64 + i) ≡ at xs (k * l + i)

column_widened : (r l w i : ℕ) (xs ys : List ℕ) → ((j : ℕ) → j < r → at ys (j * w + i) ≡ at xs (j * l + i)) → column r w i ys ≡ column r l i xs
unfolding column
column_widened r l w i xs ys h = tabulate_same 0 (λ m. at ys (m * w + i)) (λ m. at xs (m * l + i)) r h

-- the sums over strips laid out wider, copied
pub combined_widened : (ws : List ℕ) (r : ℕ) (xs ys a t s z : List ℕ) → length t ≡ 64 → length a ≤ 64
    → ((j i : ℕ) → j < r → i < length a → at ys (j * 64 + i) ≡ at xs (j * length a + i))
    → Combined ws r ys t s → Laid (λ i. at s (0 + i)) 0 (length a) a z → Combined ws r xs a z
combined_widened ws r xs ys a t s z w b S K C f n =
    tabulate_is (λ i. dotted f (take r ws) (column r (length a) i xs)) 0 (length a) z C.written.size
    (λ i h. ap (at z) (sym (zero-add i)) ∙ laid_at C i h ∙ ap (at s) (zero-add i)
    ∙ at_table (λ i. dotted f (take r ws) (column r (length t) i ys)) (length t) s (K f n) i (omega arith)
    ∙ ap (λ k. dotted f (take r ws) (column r k i ys)) w
    ∙ ap (dotted f (take r ws)) (column_widened r (length a) 64 i xs ys (λ j g. S j i g h)))
