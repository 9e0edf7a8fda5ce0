-- Adding to one row a multiple of another keeps what the rows annul. Assumes nothing.
--   dotted_scaled         the sum over us + c bs
--   row_at, length_row    entries of a row
--   reduced_add           one row and a multiple of another
use mathlib.Core.Path.{◌≡◌, sym, ap, ap₂, ◌∙◌}
use mathlib.Core.Logic.{◌≢◌}
use mathlib.Core.List.{List, [], ◌∷◌}
use Prim.Native.Nat.{ℕ, suc, ◌+◌, ◌*◌, ◌≤◌, ◌<◌, suc-le-suc}
use native.Mathlib.Decide.{ℕ_discrete, dec_lt}
use native.Mathlib.Omega.{arith}
use lib.ListN.{length, take}
use lib.Seq.{length-take-le, get_or-take}
use Rattle.algebra.specs.Ring.{Ring}
use Rattle.algebra.specs.Sequence.{at}
use Rattle.algebra.proofs.Ring.{add_mul, add_interchange}
use Rattle.algebra.proofs.At.{at_past}
use Rattle.algebra.proofs.Tabulate.{length_tabulate, at_tabulate, tabulate_same}
use Rattle.algebra.proofs.Writing.{laid_at}
use Rattle.field.specs.Field.{q, plus, times}
use Rattle.field.specs.Polynomial.{dotted}
use Rattle.field.proofs.Laws.{laws}
use Rattle.field.proofs.Products.{dotted_below}
use Rattle.field.proofs.Elem.{Elem, ring_of, zero_below, times_zero, zero_plus, plus_times_zero}
use Rattle.linear.specs.Step.{Added}
use Rattle.row_reduction.specs.Matrix.{matrix_row, Annuls, Elements, Reduced}

module _ (R : Ring) where
  open R use {El, add as ◌⊕◌, mul as ◌⊗◌, mul_assoc, mul_add}

  infixl 60 ◌⊕◌
  infixl 70 ◌⊗◌
  one_term : (a b c y s t : El) → (a ⊕ c ⊗ b) ⊗ y ⊕ (s ⊕ c ⊗ t) ≡ (a ⊗ y ⊕ s) ⊕ c ⊗ (b ⊗ y ⊕ t)
  one_term a b c y s t =
      ap (λ z. z ⊕ (s ⊕ c ⊗ t)) (add_mul R a (c ⊗ b) y ∙ ap (λ z. a ⊗ y ⊕ z) (mul_assoc c b y))
      ∙ add_interchange R (a ⊗ y) (c ⊗ (b ⊗ y)) s (c ⊗ t) ∙ ap (λ z. (a ⊗ y ⊕ s) ⊕ z) (sym (mul_add c (b ⊗ y) t))

module _ (f : ℕ) (c : ℕ) (c_below : c < q f) where
  nothing : 0 ≡ plus f 0 (times f c 0)
  nothing = sym (ap (plus f 0) (times_zero f c c_below) ∙ zero_plus f 0 (zero_below f))

  pub dotted_scaled : (us vs bs ys : List ℕ) → length vs ≡ length us → length bs ≡ length us
      → ((i : ℕ) → i < length us → at us i ≡ plus f (at vs i) (times f c (at bs i))) → Elements f vs → Elements f bs → Elements f ys
      → dotted f us ys ≡ plus f (dotted f vs ys) (times f c (dotted f bs ys))
  unfolding dotted
  dotted_scaled [] [] [] ys h l e a b y = nothing
  dotted_scaled [] [] (b ∷ bs) ys h l e ea eb y = absurd (omega arith)
  dotted_scaled [] (a ∷ vs) bs ys h l e ea eb y = absurd (omega arith)
  dotted_scaled (u ∷ us) [] bs ys h l e ea eb y = absurd (omega arith)
  dotted_scaled (u ∷ us) (a ∷ vs) [] ys h l e ea eb y = absurd (omega arith)
  dotted_scaled (u ∷ us) (a ∷ vs) (b ∷ bs) [] h l e ea eb y = nothing
  dotted_scaled (u ∷ us) (a ∷ vs) (b ∷ bs) (x ∷ ys) h l e ea eb y =
      let rest = dotted_scaled us vs bs ys (omega arith) (omega arith) (λ i d. e (suc i) (suc-le-suc d)) (λ i. ea (suc i)) (λ i. eb (suc i)) (λ i. y (suc i)) in
      ap₂ (λ v w. plus f (times f v x) w) (e 0 (omega arith)) rest
      ∙ ap (λ (v : Elem f). v.0)
      (one_term (ring_of f) (a, ea 0) (b, eb 0) (c, c_below) (x, y 0) (dotted f vs ys, dotted_below f vs ys) (dotted f bs ys, dotted_below f bs ys))

pub row_at : (xs : List ℕ) (c i : ℕ) → i < 16 → at (matrix_row xs c) i ≡ at xs (c * 16 + i)
unfolding matrix_row
row_at xs c i h = at_tabulate (λ i. at xs (c * 16 + i)) 0 16 i h

pub length_row : (xs : List ℕ) (c : ℕ) → length (matrix_row xs c) ≡ 16
unfolding matrix_row
length_row xs c = length_tabulate (λ i. at xs (c * 16 + i)) 16

-- the first r entries of a row
module _ (xs : List ℕ) (c r : ℕ) (few : r ≤ 16) where
  pub front_long : length (take r (matrix_row xs c)) ≡ r
  front_long = length-take-le r (matrix_row xs c) (omega (arith, length_row xs c))

  pub front_at : (i : ℕ) → i < r → at (take r (matrix_row xs c)) i ≡ at xs (c * 16 + i)
  front_at i h = get_or-take r (matrix_row xs c) i 0 h ∙ row_at xs c i (omega arith)

  front_elements : (f : ℕ) → Elements f xs → Elements f (take r (matrix_row xs c))
  front_elements f e i = go (dec_lt i r)
    where
      go : Dec (i < r) → at (take r (matrix_row xs c)) i < q f
      go (yes h) = rw (front_at i h) (e (c * 16 + i))
      go (no h) = rw (at_past (take r (matrix_row xs c)) i (omega (arith, front_long))) (zero_below f)

module _ (f n : ℕ) (x z : List ℕ) (a b c d e : ℕ) (d_is : d ≡ a * 16) (e_is : e ≡ b * 16) (apart : a ≢ b) (c_below : c < q f) (E : Elements f x)
    (A : Added f x z d e 16 c) where
  -- row a, and the others
  own : (i : ℕ) → i < 16 → at z (a * 16 + i) ≡ plus f (at x (a * 16 + i)) (times f c (at x (b * 16 + i)))
  own i h =
      ap (λ k. at z (k + i)) (sym d_is) ∙ laid_at A i h
      ∙ ap₂ (λ k l. plus f (at x (k + i)) (times f c (at x (l + i)))) d_is e_is

  other : (k : ℕ) → k ≢ a → matrix_row z k ≡ matrix_row x k
  unfolding matrix_row
  other k m = tabulate_same 0 (λ i. at z (k * 16 + i)) (λ i. at x (k * 16 + i)) 16 (λ i h. go i h (dec_lt (k * 16 + i) d))
    where
      go : (i : ℕ) → i < 16 → Dec (k * 16 + i < d) → at z (k * 16 + i) ≡ at x (k * 16 + i)
      go i h (yes l) = A.written.before (k * 16 + i) l
      go i h (no l) = A.written.behind (k * 16 + i) (omega arith)

  added_below : Elements f z
  added_below p = go (dec_lt p d) (dec_lt p (d + 16))
    where
      go : Dec (p < d) → Dec (p < d + 16) → at z p < q f
      go (yes l) m = rw (A.written.before p l) (E p)
      go (no l) (yes m) = rw (A.written.put p (omega arith) m) ((laws f).plus_below _ _)
      go (no l) (no m) = rw (A.written.behind p (omega arith)) (E p)

  sum_own : (r : ℕ) (ys : List ℕ) → r ≤ 16 → Elements f ys
      → dotted f (take r (matrix_row z a)) ys ≡ plus f (dotted f (take r (matrix_row x a)) ys) (times f c (dotted f (take r (matrix_row x b)) ys))
  sum_own r ys h y =
      dotted_scaled f c c_below (take r (matrix_row z a)) (take r (matrix_row x a)) (take r (matrix_row x b)) ys
      (front_long x a r h ∙ sym (front_long z a r h)) (front_long x b r h ∙ sym (front_long z a r h))
      (λ i l. let m : i < r = omega (arith, front_long z a r h) in
      front_at z a r h i m ∙ own i (omega arith) ∙ sym (ap₂ (λ v w. plus f v (times f c w)) (front_at x a r h i m) (front_at x b r h i m)))
      (front_elements x a r h f E) (front_elements x b r h f E) y

  module _ (b_row : b < n) (r : ℕ) (ys : List ℕ) (h : r ≤ 16) (y : Elements f ys) where
    -- where row b annuls, row a does just where it did
    same_sum : dotted f (take r (matrix_row x b)) ys ≡ 0 → dotted f (take r (matrix_row z a)) ys ≡ dotted f (take r (matrix_row x a)) ys
    same_sum o =
        sum_own r ys h y ∙ ap (λ v. plus f (dotted f (take r (matrix_row x a)) ys) (times f c v)) o
        ∙ plus_times_zero f (dotted f (take r (matrix_row x a)) ys) c (dotted_below f (take r (matrix_row x a)) ys) c_below

    onward : Annuls f n r x ys → Annuls f n r z ys
    unfolding Annuls
    onward t k l = go (ℕ_discrete k a)
      where
        go : Dec (k ≡ a) → dotted f (take r (matrix_row z k)) ys ≡ 0
        go (yes p) = ap (λ k. dotted f (take r (matrix_row z k)) ys) p ∙ same_sum (t b b_row) ∙ ap (λ k. dotted f (take r (matrix_row x k)) ys) (sym p) ∙ t k l
        go (no p) = ap (λ (xs : List ℕ). dotted f (take r xs) ys) (other k p) ∙ t k l

    backward : Annuls f n r z ys → Annuls f n r x ys
    unfolding Annuls
    backward t k l = go (ℕ_discrete k a)
      where
        row_b : dotted f (take r (matrix_row x b)) ys ≡ 0
        row_b = ap (λ (xs : List ℕ). dotted f (take r xs) ys) (sym (other b (λ e. apart (sym e)))) ∙ t b b_row

        go : Dec (k ≡ a) → dotted f (take r (matrix_row x k)) ys ≡ 0
        go (yes p) = ap (λ k. dotted f (take r (matrix_row x k)) ys) p ∙ sym (same_sum row_b) ∙ ap (λ k. dotted f (take r (matrix_row z k)) ys) (sym p) ∙ t k l
        go (no p) = ap (λ (xs : List ℕ). dotted f (take r xs) ys) (sym (other k p)) ∙ t k l

  pub reduced_add : b < n → Reduced f n x z
  reduced_add h = record { size = A.written.size; below = added_below; on = λ r ys l y. onward h r ys l y; back = λ r ys l y. backward h r ys l y }
