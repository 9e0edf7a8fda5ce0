-- A polynomial that is 0 at different points is the product of X - y over the points y, times another one. Assumes nothing.
--   factor            where y is a root, a polynomial is X - y times the quotient
--   Cofactor ys cs    == the coefficients of that other one
--   cofactor          there is one
use mathlib.Core.Path.{◌≡◌, sym, ap, ◌∙◌}
use mathlib.Core.Logic.{◌≢◌}
use mathlib.Core.List.{List, [], ◌∷◌}
use Prim.Native.Nat.{◌+◌, ◌≤◌}
use native.Mathlib.Omega.{arith}
use lib.ListN.{length}
use Rattle.algebra.specs.Ring.{Field}
use Rattle.algebra.specs.Sequence.{Each, Distinct}
use Rattle.algebra.specs.Polynomial.{eval}
use Rattle.algebra.proofs.Ring.{unit_mul, nil_add, add_cancel, sub_mul}
use Rattle.algebra.proofs.Each.{each_zip}
use Rattle.algebra.proofs.Polynomial.{div, length_div, divides, root_of_div}
use Rattle.algebra.proofs.Blocks.{vanish}

module _ (F : Field) where
  open F use {ring}
  open F.ring use {El, nil as 𝟘, add as ◌⊕◌, sub as ◌⊖◌, mul as ◌⊗◌, mul_assoc}

  infixl 60 ◌⊕◌
  infixl 60 ◌⊖◌
  infixl 70 ◌⊗◌
  -- X - y times the quotient, where y is a root
  pub factor : (c : El) (cs : List El) (x y : El) → eval ring (c ∷ cs) y ≡ 𝟘 → eval ring (c ∷ cs) x ≡ (x ⊖ y) ⊗ eval ring (div ring y cs) x
  factor c cs x y r =
      let v = eval ring (div ring y cs) x in
      add_cancel ring (eval ring (c ∷ cs) x) ((x ⊖ y) ⊗ v) (y ⊗ v)
      (divides ring c cs x y ∙ ap (λ u. u ⊕ x ⊗ v) r ∙ nil_add ring (x ⊗ v) ∙ sym (sub_mul ring x y v))

  pub record Cofactor (ys cs : List El) : Type 0 where
    pub to : List El
    pub fewer : length to + length ys ≡ length cs
    pub is : (x : El) → eval ring cs x ≡ vanish ring ys x ⊗ eval ring to x

  pub cofactor : (ys cs : List El) → Distinct ys → Each (λ y. eval ring cs y ≡ 𝟘) ys → length ys ≤ length cs → Cofactor ys cs
  unfolding vanish
  cofactor [] cs d r h = record { to = cs; fewer = omega arith; is = λ x. sym (unit_mul ring (eval ring cs x)) }
  cofactor (y ∷ ys) [] d r h = absurd (omega arith)
  cofactor (y ∷ ys) (c ∷ cs) d r h =
      let Q : Cofactor ys (div ring y cs)
      = cofactor ys (div ring y cs) d.1
      (each_zip (λ x. eval ring (c ∷ cs) x ≡ 𝟘) (λ x. x ≢ y) (λ x. eval ring (div ring y cs) x ≡ 𝟘) (root_of_div F c cs y r.0) ys r.1 d.0)
      (omega (arith, length_div ring y cs)) in
      record {
        to = Q.to;
        fewer = omega (arith, Q.fewer, length_div ring y cs);
        is = λ x.
            factor c cs x y r.0 ∙ ap (λ v. (x ⊖ y) ⊗ v) (Q.is x) ∙ sym (mul_assoc (x ⊖ y) (vanish ring ys x) (eval ring Q.to x));
      }
