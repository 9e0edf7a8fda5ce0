-- Polynomials: division by X - a, roots, differences, and functions that are polynomials. Assumes nothing.
--   div, divides     p(x) + a e(x) = p(a) + x e(x), e the quotient by X - a
--   roots            as many different roots as coefficients: all coefficients are 0
--   roots_counted    the same, with the roots counted over places
--   eval_diff, length_diff, length_diff_same, eq_of_diff
--   pad              coefficients 0 up to a number of them: eval_pad, length_pad
--   poly-*           polynomials are closed under sum, difference, multiple, shift and linear factor
--   unique_coefs, unique    two polynomials that agree at as many points as they have coefficients
use mathlib.Core.Path.{◌≡◌, refl, sym, ap, ap₂, ◌∙◌}
use mathlib.Core.Logic.{◌≢◌}
use mathlib.Core.Bool.{Bool}
use mathlib.Core.List.{List, [], ◌∷◌}
use Prim.Native.Nat.{ℕ, zero, suc, ◌≤◌, ◌<◌, zero-le, suc-le-suc}
use native.Mathlib.Nat.{le_refl, not-suc-le-zero, le_of_suc-le-suc}
use native.Mathlib.Omega.{arith}
use lib.Dec.{T}
use lib.ListN.{length}
use Rattle.algebra.specs.Ring.{Ring, Field}
use Rattle.algebra.specs.Sequence.{Each, Distinct, count}
use Rattle.algebra.specs.Polynomial.{eval, Zeros, diff, Poly}
use Rattle.algebra.proofs.Ring.{nil_add, add_left_comm, mul_left_comm, mul_nil, sub_self, sub_nil, sub_interchange, mul_sub, eq_of_sub, sub_is, same_multiple}
use Rattle.algebra.proofs.Each.{each_zip}
use Rattle.algebra.proofs.Picked.{picked, length_picked, picked_each, picked_distinct}

module _ (R : Ring) where
  open R use {El, nil as 𝟘, unit as 𝟙, add as ◌⊕◌, sub as ◌⊖◌, mul as ◌⊗◌, add_comm, add_assoc, add_nil, sub_add, mul_comm, mul_assoc, mul_add}

  infixl 60 ◌⊕◌
  infixl 60 ◌⊖◌
  infixl 70 ◌⊗◌
  pub eval_zeros : (cs : List El) → Zeros R cs → (x : El) → eval R cs x ≡ 𝟘
  unfolding eval
  eval_zeros [] z x = refl
  eval_zeros (c ∷ cs) z x = ap₂ ◌⊕◌ z.0 (ap (λ n. x ⊗ n) (eval_zeros cs z.1 x) ∙ mul_nil R x) ∙ add_nil 𝟘

  -- c + X p(X) is its value at a, and X - a times this
  unfoldable pub div : El → List El → List El
  div a [] = []
  div a (c ∷ cs) = eval R (c ∷ cs) a ∷ div a cs

  pub length_div : (a : El) (cs : List El) → length (div a cs) ≡ length cs
  unfolding div
  length_div a [] = refl
  length_div a (c ∷ cs) = ap suc (length_div a cs)

  regroup : (c x a p v e : El) → (c ⊕ x ⊗ p) ⊕ a ⊗ (v ⊕ x ⊗ e) ≡ (c ⊕ a ⊗ v) ⊕ x ⊗ (p ⊕ a ⊗ e)
  regroup c x a p v e = simp (mul_add, add_assoc, add_left_comm R, mul_left_comm R)

  pub divides : (c : El) (cs : List El) (x a : El) → eval R (c ∷ cs) x ⊕ a ⊗ eval R (div a cs) x ≡ eval R (c ∷ cs) a ⊕ x ⊗ eval R (div a cs) x
  unfolding eval div
  divides c [] x a =
      ap₂ ◌⊕◌ (ap (λ n. c ⊕ n) (mul_nil R x ∙ sym (mul_nil R a))) (mul_nil R a ∙ sym (mul_nil R x))
  divides c (d ∷ ds) x a =
      regroup c x a (eval R (d ∷ ds) x) (eval R (d ∷ ds) a) (eval R (div a ds) x) ∙ ap (λ n. (c ⊕ a ⊗ eval R (d ∷ ds) a) ⊕ x ⊗ n) (divides d ds x a)

  zeros_div : (a : El) (cs : List El) → Zeros R (div a cs) → Zeros R cs
  unfolding eval div
  zeros_div a [] z = tt
  zeros_div a (c ∷ cs) z =
      let t = zeros_div a cs z.1 in
      (sym (add_nil c) ∙ ap (λ n. c ⊕ n) (sym (ap (λ n. a ⊗ n) (eval_zeros cs t a) ∙ mul_nil R a)) ∙ z.0, t)

  -- differences, of lists of any two lengths
  pub length_diff : (n : ℕ) (cs ds : List El) → length cs ≤ n → length ds ≤ n → length (diff R cs ds) ≤ n
  unfolding diff
  length_diff n [] [] h l = h
  length_diff zero [] (d ∷ ds) h l = absurd (not-suc-le-zero l)
  length_diff (suc n) [] (d ∷ ds) h l = suc-le-suc (length_diff n [] ds zero-le (le_of_suc-le-suc l))
  length_diff zero (c ∷ cs) [] h l = absurd (not-suc-le-zero h)
  length_diff (suc n) (c ∷ cs) [] h l = suc-le-suc (length_diff n cs [] (le_of_suc-le-suc h) zero-le)
  length_diff zero (c ∷ cs) (d ∷ ds) h l = absurd (not-suc-le-zero h)
  length_diff (suc n) (c ∷ cs) (d ∷ ds) h l = suc-le-suc (length_diff n cs ds (le_of_suc-le-suc h) (le_of_suc-le-suc l))

  pub length_diff_same : (n : ℕ) (cs ds : List El) → length cs ≡ n → length ds ≡ n → length (diff R cs ds) ≡ n
  unfolding diff
  length_diff_same n [] [] h l = h
  length_diff_same n [] (d ∷ ds) h l = absurd (omega arith)
  length_diff_same n (c ∷ cs) [] h l = absurd (omega arith)
  length_diff_same zero (c ∷ cs) (d ∷ ds) h l = absurd (omega arith)
  length_diff_same (suc n) (c ∷ cs) (d ∷ ds) h l = ap suc (length_diff_same n cs ds (omega arith) (omega arith))

  spread : (c d x p s : El) → (c ⊖ d) ⊕ x ⊗ (p ⊖ s) ≡ (c ⊕ x ⊗ p) ⊖ (d ⊕ x ⊗ s)
  spread c d x p s = ap (λ n. (c ⊖ d) ⊕ n) (mul_sub R x p s) ∙ sym (sub_interchange R c (x ⊗ p) d (x ⊗ s))

  none : (x : El) → 𝟘 ⊕ x ⊗ 𝟘 ≡ 𝟘
  none x = nil_add R (x ⊗ 𝟘) ∙ mul_nil R x

  pub eval_diff : (cs ds : List El) (x : El) → eval R (diff R cs ds) x ≡ eval R cs x ⊖ eval R ds x
  unfolding eval diff
  eval_diff [] [] x = sym (sub_nil R 𝟘)
  eval_diff [] (d ∷ ds) x =
      ap (λ n. (𝟘 ⊖ d) ⊕ x ⊗ n) (eval_diff [] ds x) ∙ spread 𝟘 d x 𝟘 (eval R ds x) ∙ ap (λ n. n ⊖ (d ⊕ x ⊗ eval R ds x)) (none x)
  eval_diff (c ∷ cs) [] x =
      ap (λ n. (c ⊖ 𝟘) ⊕ x ⊗ n) (eval_diff cs [] x) ∙ spread c 𝟘 x (eval R cs x) 𝟘 ∙ ap (λ n. (c ⊕ x ⊗ eval R cs x) ⊖ n) (none x)
  eval_diff (c ∷ cs) (d ∷ ds) x =
      ap (λ n. (c ⊖ d) ⊕ x ⊗ n) (eval_diff cs ds x) ∙ spread c d x (eval R cs x) (eval R ds x)

  pub eq_of_diff : (cs ds : List El) → length cs ≡ length ds → Zeros R (diff R cs ds) → cs ≡ ds
  unfolding diff
  eq_of_diff [] [] h z = refl
  eq_of_diff [] (d ∷ ds) h z = absurd (omega arith)
  eq_of_diff (c ∷ cs) [] h z = absurd (omega arith)
  eq_of_diff (c ∷ cs) (d ∷ ds) h z = ap₂ {B = List El} ◌∷◌ (eq_of_sub R c d z.0) (eq_of_diff cs ds (omega arith) z.1)

  -- multiples
  scale : El → List El → List El
  scale k [] = []
  scale k (c ∷ cs) = k ⊗ c ∷ scale k cs

  length_scale : (k : El) (cs : List El) → length (scale k cs) ≡ length cs
  unfolding scale
  length_scale k [] = refl
  length_scale k (c ∷ cs) = ap suc (length_scale k cs)

  eval_scale : (k : El) (cs : List El) (x : El) → eval R (scale k cs) x ≡ k ⊗ eval R cs x
  unfolding eval scale
  eval_scale k [] x = sym (mul_nil R k)
  eval_scale k (c ∷ cs) x =
      ap (λ n. k ⊗ c ⊕ x ⊗ n) (eval_scale k cs x) ∙ ap (λ n. k ⊗ c ⊕ n) (mul_left_comm R x k (eval R cs x)) ∙ sym (mul_add k c (x ⊗ eval R cs x))

  -- coefficients 0 up to n of them
  pub pad : ℕ → List El → List El
  pad zero cs = cs
  pad (suc n) [] = 𝟘 ∷ pad n []
  pad (suc n) (c ∷ cs) = c ∷ pad n cs

  pub length_pad : (n : ℕ) (cs : List El) → length cs ≤ n → length (pad n cs) ≡ n
  unfolding pad
  length_pad zero [] h = refl
  length_pad zero (c ∷ cs) h = absurd (not-suc-le-zero h)
  length_pad (suc n) [] h = ap suc (length_pad n [] zero-le)
  length_pad (suc n) (c ∷ cs) h = ap suc (length_pad n cs (le_of_suc-le-suc h))

  pub eval_pad : (n : ℕ) (cs : List El) (x : El) → eval R (pad n cs) x ≡ eval R cs x
  unfolding pad eval
  eval_pad zero cs x = refl
  eval_pad (suc n) [] x = ap (λ y. 𝟘 ⊕ x ⊗ y) (eval_pad n [] x) ∙ none x
  eval_pad (suc n) (c ∷ cs) x = ap (λ y. c ⊕ x ⊗ y) (eval_pad n cs x)

  pub poly_of : (cs : List El) → Poly R (length cs) (λ x. eval R cs x)
  poly_of cs = record { coefs = cs; few = le_refl (length cs); is = λ x. refl }

  pub poly_zero : Poly R 0 (λ x. 𝟘)
  unfolding eval
  poly_zero = record { coefs = []; few = zero-le; is = λ x. refl }

  pub poly_const : (c : El) → Poly R 1 (λ x. c)
  unfolding eval
  poly_const c = record { coefs = c ∷ []; few = omega arith; is = λ x. sym (ap (λ n. c ⊕ n) (mul_nil R x) ∙ add_nil c) }

  pub poly_more : (m n : ℕ) {g : El → El} → m ≤ n → Poly R m g → Poly R n g
  poly_more m n h p = record { coefs = p.coefs; few = omega (arith, p.few); is = p.is }

  pub poly_sub : (n : ℕ) {g h : El → El} → Poly R n g → Poly R n h → Poly R n (λ x. g x ⊖ h x)
  poly_sub n p s =
      record {
        coefs = diff R p.coefs s.coefs;
        few = length_diff n p.coefs s.coefs p.few s.few;
        is = λ x. ap₂ ◌⊖◌ (p.is x) (s.is x) ∙ sym (eval_diff p.coefs s.coefs x);
      }

  pub poly_scale : (n : ℕ) {g : El → El} (k : El) → Poly R n g → Poly R n (λ x. k ⊗ g x)
  poly_scale n k p =
      record {
        coefs = scale k p.coefs;
        few = rw length_scale p.few;
        is = λ x. ap (λ y. k ⊗ y) (p.is x) ∙ sym (eval_scale k p.coefs x);
      }

  pub poly_shift : (n : ℕ) {g : El → El} → Poly R n g → Poly R (suc n) (λ x. x ⊗ g x)
  unfolding eval
  poly_shift n p =
      record {
        coefs = 𝟘 ∷ p.coefs;
        few = suc-le-suc p.few;
        is = λ x. ap (λ y. x ⊗ y) (p.is x) ∙ sym (nil_add R (x ⊗ eval R p.coefs x));
      }

  pub poly_same : (n : ℕ) {g h : El → El} → ((x : El) → h x ≡ g x) → Poly R n g → Poly R n h
  poly_same n e p = record { coefs = p.coefs; few = p.few; is = λ x. e x ∙ p.is x }

  plus_is : (a b : El) → a ⊕ b ≡ a ⊖ (𝟘 ⊖ b)
  plus_is a b = sym (sub_is R a (𝟘 ⊖ b) (a ⊕ b) (add_assoc a b (𝟘 ⊖ b) ∙ ap (λ n. a ⊕ n) (add_comm b (𝟘 ⊖ b) ∙ sub_add 𝟘 b) ∙ add_nil a))

  pub poly_add : (n : ℕ) {g h : El → El} → Poly R n g → Poly R n h → Poly R n (λ x. g x ⊕ h x)
  poly_add n {g} {h} p s =
      poly_same n (λ x. plus_is (g x) (h x)) (poly_sub n p (poly_sub n (poly_more 0 n zero-le poly_zero) s))

  -- one more linear factor
  pub poly_linear : (n : ℕ) {g : El → El} (y k : El) → Poly R n g → Poly R (suc n) (λ x. (x ⊖ y) ⊗ k ⊗ g x)
  poly_linear n {g} y k p =
      poly_same (suc n)
      (λ x. mul_assoc (x ⊖ y) k (g x) ∙ mul_comm (x ⊖ y) (k ⊗ g x) ∙ mul_sub R (k ⊗ g x) x y ∙ ap₂ ◌⊖◌ (mul_comm (k ⊗ g x) x) (mul_comm (k ⊗ g x) y))
      (poly_sub (suc n) (poly_shift n (poly_scale n k p)) (poly_more n (suc n) (omega arith) (poly_scale n y (poly_scale n k p))))

module _ (F : Field) where
  open F use {ring}
  open F.ring use {El, nil as 𝟘, unit as 𝟙, add as ◌⊕◌, sub as ◌⊖◌, mul as ◌⊗◌, add_comm, add_assoc, add_nil, mul_comm, mul_assoc, mul_add}

  infixl 60 ◌⊕◌
  infixl 60 ◌⊖◌
  infixl 70 ◌⊗◌
  pub root_of_div : (c : El) (cs : List El) (a : El) → eval ring (c ∷ cs) a ≡ 𝟘 → (x : El) → eval ring (c ∷ cs) x ≡ 𝟘 → x ≢ a
      → eval ring (div ring a cs) x ≡ 𝟘
  root_of_div c cs a p x r h =
      same_multiple F x a (eval ring (div ring a cs) x) h
      (sym (nil_add ring (x ⊗ eval ring (div ring a cs) x)) ∙ ap (λ n. n ⊕ x ⊗ eval ring (div ring a cs) x) (sym p) ∙ sym (divides ring c cs x a)
      ∙ ap (λ n. n ⊕ a ⊗ eval ring (div ring a cs) x) r ∙ nil_add ring (a ⊗ eval ring (div ring a cs) x))

  -- as many roots as coefficients: all coefficients are zero
  pub roots : (ps cs : List El) → Distinct ps → Each (λ x. eval ring cs x ≡ 𝟘) ps → length cs ≤ length ps → Zeros ring cs
  unfolding div
  roots [] [] d r h = tt
  roots (a ∷ ps) [] d r h = tt
  roots [] (c ∷ cs) d r h = absurd (not-suc-le-zero h)
  roots (a ∷ ps) (c ∷ cs) d r h =
      zeros_div ring a (c ∷ cs) (
        r.0,
        roots ps (div ring a cs) d.1
            (each_zip (λ x. eval ring (c ∷ cs) x ≡ 𝟘) (λ x. x ≢ a) (λ x. eval ring (div ring a cs) x ≡ 𝟘) (root_of_div c cs a r.0) ps r.1 d.0)
            (omega (arith, length_div ring a cs)),
      )

  each_diff : (cs ds ps : List El) → Each (λ x. eval ring cs x ≡ eval ring ds x) ps → Each (λ x. eval ring (diff ring cs ds) x ≡ 𝟘) ps
  each_diff cs ds [] e = tt
  each_diff cs ds (x ∷ ps) e =
      (eval_diff ring cs ds x ∙ ap (λ n. n ⊖ eval ring ds x) e.0 ∙ sub_self ring (eval ring ds x), each_diff cs ds ps e.1)

  -- two lists of coefficients that agree at as many points as they have coefficients
  pub unique_coefs : (ps cs ds : List El) → Distinct ps → length cs ≡ length ds → length cs ≤ length ps
      → Each (λ x. eval ring cs x ≡ eval ring ds x) ps → cs ≡ ds
  unique_coefs ps cs ds d h l e =
      eq_of_diff ring cs ds h (roots ps (diff ring cs ds) d (each_diff cs ds ps e) (length_diff ring (length ps) cs ds l (omega arith)))

  pub unique : (ps : List El) {g h : El → El} → Distinct ps → Poly ring (length ps) g → Poly ring (length ps) h
      → Each (λ x. g x ≡ h x) ps → (x : El) → g x ≡ h x
  unique ps {g} {h} d p s e x =
      p.is x
      ∙ eq_of_sub ring (eval ring p.coefs x) (eval ring s.coefs x)
      (sym (eval_diff ring p.coefs s.coefs x) ∙ eval_zeros ring (diff ring p.coefs s.coefs) z x)
      ∙ sym (s.is x)
    where
      on : (qs : List El) → Each (λ x. g x ≡ h x) qs → Each (λ x. eval ring p.coefs x ≡ eval ring s.coefs x) qs
      on [] t = tt
      on (y ∷ qs) t = (sym (p.is y) ∙ t.0 ∙ s.is y, on qs t.1)

      z : Zeros ring (diff ring p.coefs s.coefs)
      z = roots ps (diff ring p.coefs s.coefs) d (each_diff p.coefs s.coefs ps (on ps e))
          (length_diff ring (length ps) p.coefs s.coefs p.few s.few)

  -- counted over places: pt gives the points of places 0 to n - 1, all different; t marks places, each of them a root
  pub roots_counted : (pt : ℕ → El) (t : ℕ → Bool) (n : ℕ) (cs : List El) → ((i j : ℕ) → i < n → j < n → pt i ≡ pt j → i ≡ j)
      → ((i : ℕ) → i < n → T (t i) → eval ring cs (pt i) ≡ 𝟘) → length cs ≤ count t n → Zeros ring cs
  roots_counted pt t n cs differ root h =
      roots (picked pt t n) cs (picked_distinct pt t n differ) (picked_each pt t (λ x. eval ring cs x ≡ 𝟘) n root) (rw length_picked h)
