-- The entry that a nibble of four weights' bits chooses. Assumes nothing.
--   nibble_below, nibble_bit      a nibble is below 16; its bits are those of the weights
--   sum_split, sum_blocks         a sum of two stretches; of blocks of four
--   entries_sum                   the entries of a level: the sum of the symbols whose weights have the level's bit
use mathlib.Core.Path.{◌≡◌, sym, ap, ◌∙◌}
use mathlib.Core.List.{List}
use Prim.Native.Nat.{ℕ, zero, suc, ◌+◌, ◌*◌, ◌-◌, ◌<◌}
use native.Mathlib.Nat.{add-zero, add-suc, add_comm}
use native.Mathlib.Omega.{arith}
use Rattle.algebra.specs.Sequence.{at}
use Rattle.field.specs.Field.{pick}
use Rattle.field.proofs.Xor.{xor_assoc}
use Rattle.field.proofs.Byte.{◌⊕◌, ⊕_zero}
use Rattle.tiles.specs.Step.{sum}
use Rattle.tiles.proofs.Sum.{sum_none, sum_more, sum_below, sum_same}
use Rattle.lanes.specs.Lane.{bit, shown}
use Rattle.plane_sums.specs.Step.{nibble, Planned, SumsOf}
use Rattle.plane_sums.specs.Level.{entries}
use Rattle.plane_sums.proofs.Bits.{bit_below}

four_bits : (a b c d : ℕ) → a < 2 → b < 2 → c < 2 → d < 2 → a + 2 * b + 4 * c + 8 * d < 16
four_bits a b c d h k l m = omega arith

pub nibble_below : (m : ℕ) (w : ℕ → ℕ) → nibble m w < 16
nibble_below m w =
    four_bits (bit (7 - m) (w 0)) (bit (7 - m) (w 1)) (bit (7 - m) (w 2)) (bit (7 - m) (w 3))
    (bit_below (7 - m) (w 0)) (bit_below (7 - m) (w 1)) (bit_below (7 - m) (w 2)) (bit_below (7 - m) (w 3))

module _ (f : ℕ → ℕ) (h : (x : ℕ) → f x < 2) where
  abbrev gathered_four : ℕ
  gathered_four = f 0 + 2 * f 1 + 4 * f 2 + 8 * f 3

  bit_of_four : (x : ℕ) → x < 4 → bit x gathered_four ≡ f x
  bit_of_four zero l = omega (arith, h 0)
  bit_of_four (suc zero) l = omega (arith, h 0, h 1)
  bit_of_four (suc (suc zero)) l = omega (arith, h 0, h 1, h 2)
  bit_of_four (suc (suc (suc zero))) l = omega (arith, h 0, h 1, h 2, h 3)
  bit_of_four (suc (suc (suc (suc x)))) l = absurd (omega arith)

nibble_bit : (m : ℕ) (w : ℕ → ℕ) (x : ℕ) → x < 4 → bit x (nibble m w) ≡ bit (7 - m) (w x)
nibble_bit m w x h = bit_of_four (λ x. bit (7 - m) (w x)) (λ x. bit_below (7 - m) (w x)) x h

sum_split : (f : ℕ → ℕ) (a b : ℕ) → sum 0 f (a + b) ≡ sum 0 f a ⊕ sum 0 (λ x. f (a + x)) b
sum_split f a zero =
    ap (sum 0 f) (add-zero a) ∙ sym (ap (λ n. sum 0 f a ⊕ n) (sum_none 0 (λ x. f (a + x))) ∙ ⊕_zero (sum_below f a))
sum_split f a (suc b) =
    ap (sum 0 f) (add-suc a b) ∙ sum_more 0 f (a + b) ∙ ap (λ n. n ⊕ f (a + b)) (sum_split f a b)
    ∙ xor_assoc 8 (sum 0 f a) (sum 0 (λ x. f (a + x)) b) (f (a + b))
    ∙ ap (λ n. sum 0 f a ⊕ n) (sym (sum_more 0 (λ x. f (a + x)) b))

sum_blocks : (f : ℕ → ℕ) (g : ℕ) → sum 0 (λ h. sum 0 (λ x. f (h * 4 + x)) 4) g ≡ sum 0 f (g * 4)
sum_blocks f zero = sum_none 0 (λ h. sum 0 (λ x. f (h * 4 + x)) 4) ∙ sym (sum_none 0 f)
sum_blocks f (suc g) =
    let e : g * 4 + 4 ≡ suc g * 4 = omega arith in
    sum_more 0 (λ h. sum 0 (λ x. f (h * 4 + x)) 4) g ∙ ap (λ n. n ⊕ sum 0 (λ x. f (g * 4 + x)) 4) (sum_blocks f g)
    ∙ sym (sum_split f (g * 4) 4) ∙ ap (sum 0 f) e

module _ (g : ℕ) (ps : List ℕ) (m : ℕ) (ts : List ℕ) (w : ℕ → ℕ) (v : ℕ → ℕ → ℕ → ℕ)
    (planned : (h : ℕ) → h < g → Planned ps (m + h) g (λ x. w (h * 4 + x)))
    (sums : (h : ℕ) → h < g → SumsOf ts (h * 4096) (λ x. v (h * 4 + x))) (s i : ℕ) (s_below : s < 8) (i_below : i < 32) where
  -- the entry of one table
  chosen : (l h : ℕ) → l < 8 → h < g
      → shown ts (at ps (m + h + l * g) * 256 + h * 4096) s i ≡ sum 0 (λ x. pick (bit (7 - l) (w (h * 4 + x))) (v (h * 4 + x) s i)) 4
  chosen l h b k =
      let n = nibble l (λ x. w (h * 4 + x)) in
      ap (λ a. shown ts (a * 256 + h * 4096) s i) (planned h k l b) ∙ ap (λ a. shown ts a s i) (add_comm (n * 256) (h * 4096))
      ∙ sums h k n s i (nibble_below l (λ x. w (h * 4 + x))) s_below i_below
      ∙ sum_same 0 (λ x. pick (bit x n) (v (h * 4 + x) s i)) (λ x. pick (bit (7 - l) (w (h * 4 + x))) (v (h * 4 + x) s i)) 4
      (λ x c. ap (λ b. pick b (v (h * 4 + x) s i)) (nibble_bit l (λ x. w (h * 4 + x)) x c))

  pub entries_sum : (l : ℕ) → l < 8 → entries g ps m ts s i l ≡ sum 0 (λ x. pick (bit (7 - l) (w x)) (v x s i)) (g * 4)
  entries_sum l b =
      let f : ℕ → ℕ = λ x. pick (bit (7 - l) (w x)) (v x s i) in
      sum_same 0 (λ h. shown ts (at ps (m + h + l * g) * 256 + h * 4096) s i) (λ h. sum 0 (λ x. f (h * 4 + x)) 4) g (λ h k. chosen l h b k)
      ∙ sum_blocks f g
