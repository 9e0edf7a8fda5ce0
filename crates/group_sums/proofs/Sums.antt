-- A codeword's symbol over bytes, with whole groups, is a sum of sums. Assumes nothing.
--   local_sum       the value of a local polynomial
--   encoded_sums    the symbol of place p: powers of its point times sums that its group has in common
use mathlib.Core.Path.{◌≡◌, sym, ap, ◌∙◌}
use mathlib.Core.Bool.{true}
use mathlib.Core.List.{List}
use Prim.Native.Nat.{ℕ, ◌+◌, ◌*◌, ◌≤◌, ◌<◌}
use native.Mathlib.Nat.{mul-le-mul_right}
use native.Mathlib.Decide.{dec_lt}
use native.Mathlib.Omega.{arith}
use lib.Dec.{T, lit<}
use lib.ListN.{length}
use Rattle.algebra.specs.Sequence.{at, tabulate, all_below}
use Rattle.algebra.specs.Strand.{strand}
use Rattle.algebra.proofs.At.{at_past}
use Rattle.algebra.proofs.Below.{all_below_any}
use Rattle.algebra.proofs.Tabulate.{length_tabulate, at_tabulate}
use Rattle.field.specs.Field.{q, γ, minus, times_from, power}
use Rattle.field.specs.Polynomial.{poly}
use Rattle.field.proofs.Byte.{⊕_zero}
use Rattle.field.proofs.Elem.{gamma_below, power_below}
use Rattle.field.proofs.Elements.{poly_below}
use Rattle.code.specs.declared.Shape.{Shape}
use Rattle.code.specs.Shape.{size, whole, group, point}
use Rattle.code.specs.Codeword.{encoded}
use Rattle.code.specs.Laws.{Placed}
use Rattle.code.proofs.Points.{point_below}
use Rattle.code.proofs.Codewords.{MessageIs}
use Rattle.local_code.specs.Step.{local_coefs, level, local_value}
use Rattle.evaluation.specs.Step.{evaluated}
use Rattle.encode.proofs.Evaluated.{whole_evaluated}
use Rattle.tiles.specs.Step.{sum}
use Rattle.tiles.proofs.Sum.{sum_same}
use Rattle.group_sums.proofs.Values.{poly_sum}
use Rattle.group_sums.proofs.Strands.{strand_at}

byte_poly : (cs : List ℕ) (x : ℕ) → poly 1 cs x < 256
unfolding q
byte_poly cs x = poly_below 1 cs x

module _ (xs : List ℕ) (r n y x : ℕ) (hy : y < 256) (hx : x < 256) (b : (e : ℕ) → at xs e < 256) (l : length xs ≤ n * r) where
  coef : ℕ → ℕ
  coef i = poly 1 (strand r i 0 xs) y

  inner : ℕ → ℕ
  inner i = sum 0 (λ a. times_from 8 (power 1 y a) (at xs (a * r + i))) n

  coef_sum : (i : ℕ) → i < r → coef i ≡ inner i
  unfolding coef inner
  coef_sum i h =
      poly_sum (strand r i 0 xs) y n hy (λ a. rw (strand_at r i h xs a) (b (a * r + i)))
      (λ a k. strand_at r i h xs a ∙ at_past xs (a * r + i) (omega (arith, mul-le-mul_right r k)))
      ∙ sum_same 0 (λ a. times_from 8 (power 1 y a) (at (strand r i 0 xs) a)) (λ a. times_from 8 (power 1 y a) (at xs (a * r + i))) n
      (λ a k. ap (times_from 8 (power 1 y a)) (strand_at r i h xs a))

  coef_below : (i : ℕ) → at (tabulate coef r) i < 256
  unfolding coef
  coef_below i = go (dec_lt i r)
    where
      go : Dec (i < r) → at (tabulate coef r) i < 256
      go (yes h) = rw (at_tabulate coef 0 r i h) (byte_poly (strand r i 0 xs) y)
      go (no h) = rw (at_past (tabulate coef r) i (omega (arith, length_tabulate coef r))) (lit< tt)

  pub local_sum : poly 1 (tabulate (λ i. poly 1 (strand r i 0 xs) y) r) x
      ≡ sum 0 (λ i. times_from 8 (power 1 x i) (sum 0 (λ a. times_from 8 (power 1 y a) (at xs (a * r + i))) n)) r
  unfolding coef inner
  local_sum =
      poly_sum (tabulate coef r) x r hx coef_below (λ i k. at_past (tabulate coef r) i (omega (arith, length_tabulate coef r)))
      ∙ sum_same 0 (λ i. times_from 8 (power 1 x i) (at (tabulate coef r) i)) (λ i. times_from 8 (power 1 x i) (inner i)) r
      (λ i h. ap (times_from 8 (power 1 x i)) (at_tabulate coef 0 r i h ∙ coef_sum i h))

-- the group's level
level_is : (e : ℕ) → minus 1 (power 1 γ e) 0 ≡ power 1 γ e
unfolding q minus
level_is e = ⊕_zero (power_below 1 γ e (gamma_below 1))

bytes : (f : ℕ) → f ≡ 1 → q f ≡ 256
unfolding q
bytes f e = ap q e

pub encoded_sums : (s : Shape) (P : Placed s) → s.field ≡ 1 → s.second ≡ 0 → whole s ≡ true → (xs : List ℕ) → MessageIs s xs
    → (n : ℕ) → s.k ≤ n * s.r → (p : ℕ) → p < s.n
    → at (encoded s xs) p
    ≡ sum 0 (λ b. times_from 8 (power 1 (point s p) b)
    (sum 0 (λ a. times_from 8 (power 1 (power 1 γ (group s p * size s)) a) (at xs (a * s.r + b))) n)) s.r
unfolding evaluated local_value local_coefs level
encoded_sums s P one none w xs M n h p b =
    let x = point s p in
    let g : ℕ = group s p * size s in
    let e : q s.field ≡ 256 = bytes s.field one in
    let hx : x < 256 = omega (arith, e, point_below s p) in
    let t : T (all_below 256 xs) = rw e at M.below in
    ap (λ ys. at ys p) (sym (whole_evaluated s P none w xs M)) ∙ at_tabulate (local_value s 0 xs) 0 s.n p b
    ∙ ap (λ f. poly f (tabulate (λ i. poly f (strand s.r i 0 xs) (minus f (power f γ g) 0)) s.r) x) one
    ∙ ap (λ y. poly 1 (tabulate (λ i. poly 1 (strand s.r i 0 xs) y) s.r) x) (level_is g)
    ∙ local_sum xs s.r n (power 1 γ g) x (unfold q in power_below 1 γ g (gamma_below 1)) hx (all_below_any 256 xs (lit< tt) t) (omega (arith, M.length_is))
