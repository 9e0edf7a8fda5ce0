-- Division of a polynomial by the product of X - y over some points y. Assumes nothing.
--   Split ys n g    == g is that product times a polynomial of n coefficients, and a rest of as many coefficients as there are points
--   split           every polynomial of so many coefficients in all is
--   rest_zero       the rest is 0 where g is 0 at all of these points, which differ
use mathlib.Core.Path.{◌≡◌, sym, ap, ap₂, ◌∙◌}
use mathlib.Core.List.{List, [], ◌∷◌}
use Prim.Native.Nat.{ℕ, suc, ◌+◌, ◌≤◌}
use native.Mathlib.Omega.{arith}
use lib.ListN.{length}
use Rattle.algebra.specs.Ring.{Ring, Field}
use Rattle.algebra.specs.Sequence.{Distinct, In, here, there}
use Rattle.algebra.specs.Polynomial.{eval, Poly}
use Rattle.algebra.proofs.Ring.{nil_add, nil_mul, mul_nil, unit_mul, add_left_comm, add_cancel, sub_mul, sub_self}
use Rattle.algebra.proofs.Each.{each_intro}
use Rattle.algebra.proofs.Polynomial.{div, length_div, divides, poly_zero, poly_const, poly_more, poly_add, poly_linear, poly_of, unique}
use Rattle.algebra.proofs.Blocks.{vanish}

module _ (R : Ring) where
  open R use {El, nil as 𝟘, unit as 𝟙, add as ◌⊕◌, sub as ◌⊖◌, mul as ◌⊗◌, add_comm, add_assoc, add_nil, mul_comm, mul_assoc, mul_unit, mul_add}

  infixl 60 ◌⊕◌
  infixl 60 ◌⊖◌
  infixl 70 ◌⊗◌
  -- one point
  pub record Divided (y : El) (n : ℕ) (g : El → El) : Type 0 where
    pub quot : El → El
    pub quot_poly : Poly R n quot
    pub is : (x : El) → g x ≡ g y ⊕ (x ⊖ y) ⊗ quot x

  by_parts : (v a x y q : El) → v ⊕ y ⊗ q ≡ a ⊕ x ⊗ q → v ≡ a ⊕ (x ⊖ y) ⊗ q
  by_parts v a x y q e =
      add_cancel R v (a ⊕ (x ⊖ y) ⊗ q) (y ⊗ q) (e ∙ ap (λ z. a ⊕ z) (sym (sub_mul R x y q)) ∙ sym (add_assoc a ((x ⊖ y) ⊗ q) (y ⊗ q)))

  divided : (y : El) (n : ℕ) (g : El → El) → Poly R (suc n) g → Divided y n g
  unfolding eval
  divided y n g p = go p.coefs p.few p.is
    where
      go : (cs : List El) → length cs ≤ suc n → ((x : El) → g x ≡ eval R cs x) → Divided y n g
      go [] h e =
          record {
            quot = λ x. 𝟘;
            quot_poly = poly_more R 0 n (omega arith) (poly_zero R);
            is = λ x. e x ∙ sym (ap₂ ◌⊕◌ (e y) (mul_nil R (x ⊖ y)) ∙ add_nil 𝟘);
          }
      go (c ∷ cs) h e =
          record {
            quot = eval R (div R y cs);
            quot_poly = poly_more R (length (div R y cs)) n (omega (arith, length_div R y cs)) (poly_of R (div R y cs));
            is = λ x. e x ∙ by_parts (eval R (c ∷ cs) x) (eval R (c ∷ cs) y) x y (eval R (div R y cs) x) (divides R c cs x y)
                ∙ ap (λ z. z ⊕ (x ⊖ y) ⊗ eval R (div R y cs) x) (sym (e y));
          }

  pub record Split (ys : List El) (n : ℕ) (g : El → El) : Type 0 where
    pub quot : El → El
    pub quot_poly : Poly R n quot
    pub rest : El → El
    pub rest_poly : Poly R (length ys) rest
    pub is : (x : El) → g x ≡ vanish R ys x ⊗ quot x ⊕ rest x

  regroup : (a d v q r : El) → a ⊕ d ⊗ (v ⊗ q ⊕ r) ≡ d ⊗ v ⊗ q ⊕ (a ⊕ d ⊗ r)
  regroup a d v q r =
      ap (λ z. a ⊕ z) (mul_add d (v ⊗ q) r ∙ ap (λ z. z ⊕ d ⊗ r) (sym (mul_assoc d v q))) ∙ add_left_comm R a (d ⊗ v ⊗ q) (d ⊗ r)

  pub split : (ys : List El) (n : ℕ) (g : El → El) → Poly R (length ys + n) g → Split ys n g
  unfolding vanish
  split [] n g p =
      record {
        quot = g;
        quot_poly = poly_more R (0 + n) n (omega arith) p;
        rest = λ x. 𝟘;
        rest_poly = poly_zero R;
        is = λ x. sym (add_nil (𝟙 ⊗ g x) ∙ unit_mul R (g x));
      }
  split (y ∷ ys) n g p =
      let D = divided y (length ys + n) g (poly_more R (suc (length ys) + n) (suc (length ys + n)) (omega arith) p) in
      let S = split ys n D.quot D.quot_poly in
      record {
        quot = S.quot;
        quot_poly = S.quot_poly;
        rest = λ x. g y ⊕ (x ⊖ y) ⊗ 𝟙 ⊗ S.rest x;
        rest_poly =
            poly_add R (suc (length ys)) (poly_more R 1 (suc (length ys)) (omega arith) (poly_const R (g y))) (poly_linear R (length ys) y 𝟙 S.rest_poly);
        is = λ x.
            D.is x ∙ ap (λ z. g y ⊕ (x ⊖ y) ⊗ z) (S.is x) ∙ regroup (g y) (x ⊖ y) (vanish R ys x) (S.quot x) (S.rest x)
            ∙ ap (λ z. (x ⊖ y) ⊗ vanish R ys x ⊗ S.quot x ⊕ (g y ⊕ z ⊗ S.rest x)) (sym (mul_unit (x ⊖ y)));
      }

  vanish_in : (y : El) {ys : List El} → In y ys → vanish R ys y ≡ 𝟘
  unfolding vanish
  vanish_in y (here {xs = ys}) = ap (λ z. z ⊗ vanish R ys y) (sub_self R y) ∙ nil_mul R (vanish R ys y)
  vanish_in y (there {y = z} i) = ap (λ v. (y ⊖ z) ⊗ v) (vanish_in y i) ∙ mul_nil R (y ⊖ z)

module _ (F : Field) where
  open F.ring use {El, nil as 𝟘, add as ◌⊕◌}

  infixl 60 ◌⊕◌
  pub rest_zero : (ys : List El) (n : ℕ) (g : El → El) (S : Split F.ring ys n g) → Distinct ys → ((y : El) → In y ys → g y ≡ 𝟘) → (x : El) → S.rest x ≡ 𝟘
  rest_zero ys n g S d z x =
      unique F ys {g = S.rest} {h = λ x. 𝟘} d S.rest_poly (poly_more F.ring 0 (length ys) (omega arith) (poly_zero F.ring))
      (each_intro (λ y. S.rest y ≡ 𝟘) ys
      (λ y i. sym (nil_add F.ring (S.rest y)) ∙ ap (λ v. v ⊕ S.rest y) (sym (ap (λ v. F.ring.mul v (S.quot y)) (vanish_in F.ring y i) ∙ nil_mul F.ring (S.quot y)))
      ∙ sym (S.is y) ∙ z y i)) x
