-- Products by Horner's rule over the bits of a weight, and their sums over a column. Assumes nothing.
--   times_half     w * x is 2 times (w / 2) * x, and x if w is odd
--   dotted_sum     the sum of weight times symbol as a sum over the places
--   bits_sum       a value that is doubled at each bit of the weights, top bit first, and the chosen symbols added: the sum of weight times symbol
--   horner_none, horner_more
--   horner_all     so after all rows of a plan
use mathlib.Core.Path.{◌≡◌, refl, sym, ap, ap₂, ◌∙◌}
use mathlib.Core.Logic.{◌≢◌}
use mathlib.Core.Bool.{Bool, true, false, cond}
use mathlib.Core.List.{List, [], ◌∷◌}
use Prim.Native.Nat.{ℕ, zero, suc, ◌+◌, ◌*◌, ◌-◌, ◌/◌, ◌%◌, ◌^◌, ◌<◌}
use native.Mathlib.Nat.{add-zero, add-suc, suc-add, zero-add, pow-suc, div-div-eq-div-mul, div-eq_of_lt, div-le_self, div-one}
use native.Mathlib.Omega.{arith}
use lib.Dec.{eqb, lit<}
use lib.ListN.{take}
use Rattle.algebra.specs.Sequence.{at, tabulate_from, tabulate, column}
use Rattle.field.specs.Field.{xor_from, plus, doubled, pick, times_from, times}
use Rattle.field.specs.Polynomial.{dotted}
use Rattle.field.proofs.Xor.{xor_comm}
use Rattle.field.proofs.Byte.{◌⊕◌, ⊕_below, times_step, times_below, double_below, times_comm, commutes, linear_double}
use Rattle.tiles.specs.Step.{sum, bit, row_symbol, horner, Planned}
use Rattle.tiles.proofs.Sum.{sum_none, sum_more, sum_same, sum_base, sum_front, sum_zero, sum_add, sum_doubled}

pick_nil : (n : ℕ) → pick n 0 ≡ 0
pick_nil n = go (eqb n 1)
  where
    go : (t : Bool) → ◌≡◌ {A = ℕ} (cond t 0 0) 0
    go true = refl
    go false = refl

nil_times : (k b : ℕ) → times_from k 0 b ≡ 0
nil_times zero b = unfold times_from in refl
nil_times (suc k) b =
    let d : doubled 0 ≡ 0 = unfold doubled in refl in
    let z : 0 ⊕ 0 ≡ 0 = unfold xor_from in refl in
    times_step k 0 b ∙ ap₂ ◌⊕◌ (pick_nil (b % 2)) (ap (λ a. times_from k a (b / 2)) d ∙ nil_times k (b / 2)) ∙ z

-- a bit more of a number that has no more
times_more : (k a b : ℕ) → b < 2 ^ k → times_from (suc k) a b ≡ times_from k a b
times_more zero a b h =
    let z : b ≡ 0 = omega arith in
    let e : times_from 1 a 0 ≡ times_from 0 a 0 = unfold times_from xor_from in refl in
    rw z e
times_more (suc k) a b h =
    let e : b / 2 < 2 ^ k = omega (arith, pow-suc 2 k) in
    times_step (suc k) a b ∙ ap (λ n. pick (b % 2) a ⊕ n) (times_more k (doubled a) (b / 2) e) ∙ sym (times_step k a b)

pub times_half : (v x : ℕ) → v < 256 → x < 256 → doubled (times_from 8 (v / 2) x) ⊕ pick (v % 2) x ≡ times_from 8 v x
times_half v x h l =
    let s : v / 2 < 128 = omega arith in
    ap (λ n. n ⊕ pick (v % 2) x)
    (ap doubled (times_comm (v / 2) x (omega arith) l) ∙ commutes doubled linear_double 8 x (v / 2) l ∙ times_more 7 (doubled x) (v / 2) s)
    ∙ xor_comm 8 (times_from 7 (doubled x) (v / 2)) (pick (v % 2) x) ∙ sym (times_step 7 x v) ∙ times_comm x v l h

dotted_from : (f : ℕ) (ws : List ℕ) (x : ℕ → ℕ) (r i : ℕ)
    → sum 0 (λ j. times_from 8 (at ws j) (x (i + j))) r ≡ dotted (suc f) (take r ws) (tabulate_from x r i)
dotted_from f ws x zero i = unfold sum dotted in refl
dotted_from f [] x (suc r) i =
    sum_same 0 (λ j. times_from 8 0 (x (i + j))) (λ j. 0) (suc r) (λ j h. nil_times 8 (x (i + j))) ∙ sum_zero (suc r) ∙ (unfold dotted in refl)
dotted_from f (w ∷ ws) x (suc r) i =
    sum_front (λ j. times_from 8 (at (w ∷ ws) j) (x (i + j))) r
    ∙ ap₂ ◌⊕◌ (ap (λ n. times_from 8 w (x n)) (add-zero i))
    (sum_same 0 (λ j. times_from 8 (at ws j) (x (i + suc j))) (λ j. times_from 8 (at ws j) (x (suc i + j))) r
    (λ j h. ap (λ n. times_from 8 (at ws j) (x n)) (add-suc i j ∙ sym (suc-add i j))) ∙ dotted_from f ws x r (suc i))
    ∙ (unfold dotted plus times tabulate_from in refl)

pub dotted_sum : (f : ℕ) (ws : List ℕ) (x : ℕ → ℕ) (r : ℕ) → f ≢ 0
    → sum 0 (λ j. times_from 8 (at ws j) (x j)) r ≡ dotted f (take r ws) (tabulate x r)
dotted_sum zero ws x r n = absurd (n refl)
dotted_sum (suc f) ws x r n =
    sum_same 0 (λ j. times_from 8 (at ws j) (x j)) (λ j. times_from 8 (at ws j) (x (0 + j))) r
    (λ j h. ap (λ n. times_from 8 (at ws j) (x n)) (sym (zero-add j)))
    ∙ dotted_from f ws x r 0 ∙ (unfold tabulate in refl)

-- Horner's rule over the bits of the weights w of the symbols x: h m is the value after the bits 7 to 8 - m
module _ (w x : ℕ → ℕ) (r : ℕ) (w_below : (j : ℕ) → j < r → w j < 256) (x_below : (j : ℕ) → j < r → x j < 256) where
  -- the weight's upper bits times its symbol
  abbrev term : ℕ → ℕ → ℕ
  term e j = times_from 8 (w j / 2 ^ e) (x j)

  term_step : (e j : ℕ) → j < r → doubled (term (suc e) j) ⊕ pick (w j / 2 ^ e % 2) (x j) ≡ term e j
  term_step e j b =
      let v = w j / 2 ^ e in
      let h : v < 256 = omega (arith, w_below j b, div-le_self (w j) (2 ^ e)) in
      let s : w j / 2 ^ suc e ≡ v / 2 = ap (λ n. w j / n) (pow-suc 2 e) ∙ sym (div-div-eq-div-mul (w j) (2 ^ e) 2) in
      ap (λ n. doubled (times_from 8 n (x j)) ⊕ pick (v % 2) (x j)) s ∙ times_half v (x j) h (x_below j b)

  module _ (h : ℕ → ℕ) (none : h 0 ≡ 0) (more : (m : ℕ) → m < 8 → h (suc m) ≡ doubled (h m) ⊕ sum 0 (λ j. pick (bit m (w j)) (x j)) r) where
    bits_some : (m e : ℕ) → m + e ≡ 8 → h m ≡ sum 0 (term e) r
    bits_some zero e l =
        none ∙ sym (sum_zero r)
        ∙ sum_same 0 (λ j. 0) (term e) r
        (λ j b. let g : e ≡ 8 = omega arith in sym (ap (λ n. term n j) g ∙ ap (λ n. times_from 8 n (x j)) (div-eq_of_lt (w_below j b)) ∙ nil_times 8 (x j)))
    bits_some (suc m) e l =
        let i : 7 - m ≡ e = omega arith in
        let t : ℕ → ℕ = term (suc e) in
        more m (omega arith)
        ∙ ap₂ (λ a b. doubled a ⊕ b) (bits_some m (suc e) (omega arith)) (ap (λ n. sum 0 (λ j. pick (w j / 2 ^ n % 2) (x j)) r) i)
        ∙ ap (λ a. a ⊕ sum 0 (λ j. pick (w j / 2 ^ e % 2) (x j)) r) (sum_doubled t r (λ j b. times_below 8 (w j / 2 ^ suc e) (x j)))
        ∙ sum_add (λ j. doubled (t j)) (λ j. pick (w j / 2 ^ e % 2) (x j)) r
        ∙ sum_same 0 (λ j. doubled (t j) ⊕ pick (w j / 2 ^ e % 2) (x j)) (term e) r (λ j b. term_step e j b)

    pub bits_sum : h 8 ≡ sum 0 (λ j. times_from 8 (w j) (x j)) r
    bits_sum = bits_some 8 0 refl ∙ sum_same 0 (term 0) (λ j. times_from 8 (w j) (x j)) r (λ j b. ap (λ n. times_from 8 n (x j)) (div-one (w j)))

pub horner_none : (xs os ns : List ℕ) (p : ℕ) → horner xs os ns p 0 ≡ 0
unfolding horner
horner_none xs os ns p = refl

pub horner_more : (xs os ns : List ℕ) (p m : ℕ) → horner xs os ns p (suc m) ≡ sum (doubled (horner xs os ns p m)) (row_symbol xs os m p) (at ns m)
unfolding horner
horner_more xs os ns p m = refl

-- the values are bytes
sum_small : (a : ℕ) (f : ℕ → ℕ) (n : ℕ) → a < 256 → sum a f n < 256
sum_small a f zero h = rw sum_none h
sum_small a f (suc n) h = rw sum_more (⊕_below (sum a f n) (f n))

horner_below : (xs os ns : List ℕ) (p m : ℕ) → horner xs os ns p m < 256
horner_below xs os ns p zero = rw horner_none (lit< tt)
horner_below xs os ns p (suc m) =
    let v = horner xs os ns p m in
    rw horner_more (sum_small (doubled v) (row_symbol xs os m p) (at ns m) (double_below v (horner_below xs os ns p m)))

module _ (ws xs os ns : List ℕ) (l r : ℕ) (P : Planned ws l os ns r) (x_below : (i : ℕ) → at xs i < 256) (p : ℕ) where
  -- the symbols of the column
  abbrev symbol : ℕ → ℕ
  symbol j = at xs (j * l + p)

  row_sum : (m : ℕ) → m < 8 → horner xs os ns p (suc m) ≡ doubled (horner xs os ns p m) ⊕ sum 0 (λ j. pick (bit m (at ws j)) (symbol j)) r
  row_sum m h =
      let v = horner xs os ns p m in
      horner_more xs os ns p m ∙ sum_base (doubled v) (row_symbol xs os m p) (at ns m) (double_below v (horner_below xs os ns p m))
      ∙ ap (λ n. doubled v ⊕ n) ((P.row m h).same (λ o. at xs (o + p)))

  pub horner_all : (f : ℕ) → f ≢ 0 → horner xs os ns p 8 ≡ dotted f (take r ws) (column r l p xs)
  horner_all f n =
      bits_sum (at ws) symbol r P.bytes (λ j b. x_below (j * l + p)) (horner xs os ns p) (horner_none xs os ns p) row_sum
      ∙ dotted_sum f ws symbol r n ∙ (unfold column in refl)
