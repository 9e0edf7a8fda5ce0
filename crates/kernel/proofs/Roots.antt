-- Products with the cube roots of unity, 214 and 215, whose sum is 1. Assumes nothing.
--   times_16_is      a byte times 16 without a branch
--   times_root_is    a byte times 214 by doublings and 16
--   root_sum_is      what is written to a column
--   roots_sum        214 a + 215 b is 214 (a + b) + b
--   combined_pair    the sums over two strips, column by column
--   combined_roots, combined_roots_swapped    those with the weights 214, 215, and 215, 214
use mathlib.Core.Path.{◌≡◌, refl, sym, ap, ap₂, ◌∙◌}
use mathlib.Core.Logic.{◌≢◌, ⊎_elim}
use mathlib.Core.List.{List}
use Prim.Native.Nat.{ℕ, ◌+◌, ◌*◌, ◌/◌, ◌%◌, ◌<◌}
use native.Mathlib.Nat.{zero-add, zero-mul, one-mul}
use native.Mathlib.Omega.{arith}
use lib.Dec.{T, eqb, eqb→eq, lit<}
use lib.Bits.{bit_xor}
use lib.ListN.{length, take}
use Rattle.algebra.specs.Sequence.{at, tabulate, every, column}
use Rattle.algebra.proofs.Tabulate.{tabulate_same}
use Rattle.algebra.proofs.Every.{every_at}
use Rattle.field.specs.Field.{xor_from, doubled, times_from}
use Rattle.field.specs.Polynomial.{dotted}
use Rattle.field.proofs.Xor.{xor_is, xor_comm, xor_assoc}
use Rattle.field.proofs.Byte.{◌⊕◌, ⊕_below, zero_⊕, double_below, one_times, times_below, times_left, times_right}
use Rattle.tiles.specs.Columns.{Combined}
use Rattle.kernel.specs.Step.{Roots, root_sum}
use Rattle.tiles.proofs.Products.{dotted_sum}
use Rattle.tiles.proofs.Sum.{sum_none, sum_more}

-- the language's xor of what is a byte a
xor_of : (x a b : ℕ) → x ≡ a → a < 256 → b < 256 → bit_xor x b ≡ a ⊕ b
xor_of x a b e h l = ap (λ n. bit_xor n b) e ∙ xor_is 8 a b h l

abbrev sixteen : ℕ → ℕ
sixteen x = x % 16 * 16 ⊕ x / 16 * 16 ⊕ x / 16 * 8 ⊕ x / 16 * 4 ⊕ x / 16

test_16 : T (every (λ x. eqb (sixteen x) (times_from 8 16 x)) 256)
unfolding every xor_from doubled times_from
test_16 = tt

pub times_16_is : (x : ℕ) → x < 256 → bit_xor (bit_xor (bit_xor (bit_xor (x % 16 * 16) (x / 16 * 16)) (x / 16 * 8)) (x / 16 * 4)) (x / 16) ≡ times_from 8 16 x
times_16_is x h =
    let a = x % 16 * 16 ⊕ x / 16 * 16 in
    let b = a ⊕ x / 16 * 8 in
    let c = b ⊕ x / 16 * 4 in
    xor_of _ c (x / 16)
    (xor_of _ b (x / 16 * 4)
    (xor_of _ a (x / 16 * 8) (xor_is 8 (x % 16 * 16) (x / 16 * 16) (omega arith) (omega arith)) (⊕_below (x % 16 * 16) (x / 16 * 16)) (omega arith))
    (⊕_below a (x / 16 * 8)) (omega arith))
    (⊕_below b (x / 16 * 4)) (omega arith)
    ∙ eqb→eq (sixteen x) (times_from 8 16 x) (every_at (λ x. eqb (sixteen x) (times_from 8 16 x)) 256 test_16 x h)

abbrev times_6 : ℕ → ℕ
times_6 x = doubled (doubled x ⊕ x)

abbrev rooted : ℕ → ℕ
rooted x = times_from 8 16 (doubled (times_6 x) ⊕ x) ⊕ times_6 x

test_root : T (every (λ x. eqb (rooted x) (times_from 8 214 x)) 256)
unfolding every xor_from doubled times_from
test_root = tt

pub times_root_is : (x two six twelve y : ℕ) → x < 256 → two ≡ doubled x → six ≡ doubled (bit_xor two x) → twelve ≡ doubled six
    → y ≡ times_from 8 16 (bit_xor twelve x) → bit_xor y six ≡ times_from 8 214 x
times_root_is x two six twelve y h p q r s =
    let three = doubled x ⊕ x in
    let six_is : six ≡ times_6 x = q ∙ ap doubled (xor_of two (doubled x) x p (double_below x h) h) in
    let six_below : six < 256 = rw six_is (double_below three (⊕_below (doubled x) x)) in
    let u = doubled six ⊕ x in
    xor_of y (times_from 8 16 u) six (s ∙ ap (times_from 8 16) (xor_of twelve (doubled six) x r (double_below six six_below) h)) (times_below 8 16 u) six_below
    ∙ ap (λ n. times_from 8 16 (doubled n ⊕ x) ⊕ n) six_is
    ∙ eqb→eq (rooted x) (times_from 8 214 x) (every_at (λ x. eqb (rooted x) (times_from 8 214 x)) 256 test_root x h)

pub roots_sum : (a b : ℕ) → b < 256 → times_from 8 214 (a ⊕ b) ⊕ b ≡ times_from 8 214 a ⊕ times_from 8 215 b
roots_sum a b h =
    let s : 215 ≡ 214 ⊕ 1 = unfold xor_from in refl in
    ap (λ n. n ⊕ b) (times_right 8 214 a b (lit< tt))
    ∙ xor_assoc 8 (times_from 8 214 a) (times_from 8 214 b) b
    ∙ ap (λ n. times_from 8 214 a ⊕ n)
    (ap (λ n. times_from 8 214 b ⊕ n) (sym (one_times b h)) ∙ sym (times_left 8 214 1 b (lit< tt) (lit< tt)) ∙ ap (λ n. times_from 8 n b) (sym s))

pub combined_pair : (ws xs a z : List ℕ) (w v : ℕ) (g : ℕ → ℕ) → at ws 0 ≡ w → at ws 1 ≡ v
    → ((i : ℕ) → i < length a → g i ≡ times_from 8 w (at xs i) ⊕ times_from 8 v (at xs (length a + i)))
    → z ≡ tabulate g (length a) → Combined ws 2 xs a z
combined_pair ws xs a z w v g p q e t f n =
    t ∙ tabulate_same 0 g (λ i. dotted f (take 2 ws) (column 2 (length a) i xs)) (length a)
    (λ i h. let x : ℕ → ℕ = λ j. times_from 8 (at ws j) (at xs (j * length a + i)) in
    let first : x 0 ≡ times_from 8 w (at xs i) = ap₂ (times_from 8) p (ap (at xs) (ap (λ k. k + i) (zero-mul (length a)) ∙ zero-add i)) in
    let second : x 1 ≡ times_from 8 v (at xs (length a + i)) = ap₂ (times_from 8) q (ap (λ k. at xs (k + i)) (one-mul (length a))) in
    e i h ∙ sym (sum_more 0 x 1 ∙ ap₂ ◌⊕◌ (sum_more 0 x 0 ∙ ap (λ k. k ⊕ x 0) (sum_none 0 x) ∙ zero_⊕ (times_below 8 (at ws 0) (at xs (0 * length a + i))) ∙ first) second)
    ∙ dotted_sum f ws (λ j. at xs (j * length a + i)) 2 n ∙ (unfold column in refl))

pub root_sum_is : (x y u t : ℕ) → x < 256 → y < 256 → u < 256 → t ≡ times_from 8 214 (bit_xor x y) → bit_xor t u ≡ times_from 8 214 (x ⊕ y) ⊕ u
root_sum_is x y u t h k l e = xor_of t (times_from 8 214 (x ⊕ y)) u (e ∙ ap (times_from 8 214) (xor_is 8 x y h k)) (times_below 8 214 (x ⊕ y)) l

module _ (ws xs a z : List ℕ) (below : (i : ℕ) → at xs i < 256) (R : Roots (at ws 0) (at ws 1)) where
  pub combined_roots : at ws 0 ≡ 214 → z ≡ tabulate (root_sum xs (length a) (length a)) (length a) → Combined ws 2 xs a z
  combined_roots p =
      let q : at ws 1 ≡ 215 = ⊎_elim (λ h. h.1) (λ h. absurd (omega arith)) R in
      combined_pair ws xs a z 214 215 (root_sum xs (length a) (length a)) p q (λ i h. roots_sum (at xs i) (at xs (length a + i)) (below (length a + i)))

  pub combined_roots_swapped : at ws 0 ≢ 214 → z ≡ tabulate (root_sum xs (length a) 0) (length a) → Combined ws 2 xs a z
  combined_roots_swapped n =
      let p : at ws 0 ≡ 215 = ⊎_elim (λ h. absurd (n h.0)) (λ h. h.0) R in
      let q : at ws 1 ≡ 214 = ⊎_elim (λ h. absurd (n h.0)) (λ h. h.1) R in
      combined_pair ws xs a z 215 214 (root_sum xs (length a) 0) p q
      (λ i h. let x = at xs i in
      let y = at xs (length a + i) in
      ap₂ (λ n k. times_from 8 214 n ⊕ at xs k) (xor_comm 8 x y) (zero-add i) ∙ roots_sum y x (below i) ∙ xor_comm 8 (times_from 8 214 y) (times_from 8 215 x))
