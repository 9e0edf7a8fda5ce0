-- How far Lagrange's sum over some places is from the value at a further point. Assumes nothing.
--   defect g            == the weighted sum of g's values at the places, less g's value at the point
--   defect_poly         0 for polynomials with no more coefficients than places
--   defect_add, defect_scale, defect_same    linear, and by values at the places and the point alone
--   defect_monic        not 0 for monic polynomials of as high a degree as there are places
--   checked e v ms      == the sum of weight times (e at the place less e at the point) times v
--   checked_is          for the values of such a polynomial g it is the defect of e g
use mathlib.Core.Path.{◌≡◌, refl, sym, ap, ap₂, ◌∙◌}
use mathlib.Core.Logic.{◌≢◌}
use mathlib.Core.List.{List, [], ◌∷◌, map}
use Prim.Native.Nat.{ℕ, suc}
use native.Mathlib.Omega.{arith}
use lib.ListN.{length, length-map, get_or}
use Rattle.algebra.specs.Ring.{Field}
use Rattle.algebra.specs.Sequence.{Each, Distinct, In, tabulate}
use Rattle.algebra.specs.Polynomial.{eval, Poly}
use Rattle.algebra.specs.Interpolation.{weigh, weighted}
use Rattle.algebra.proofs.Ring.{mul_nil, add_interchange, sub_self, eq_of_sub, mul_sub, sub_mul, sub_is, sub_interchange, mul_left_comm}
use Rattle.algebra.proofs.Each.{each_intro, each_map, distinct_map}
use Rattle.algebra.proofs.Tabulate.{length_tabulate, at_tabulate}
use Rattle.algebra.proofs.Polynomial.{unique_coefs}
use Rattle.algebra.proofs.Coefficients.{front, length_front}
use Rattle.algebra.proofs.Interpolation.{through, weighted_poly, lagrange}
use Rattle.algebra.proofs.Monic.{Monic}
use Rattle.parity.proofs.Listed.{listed, past_listed, value_listed, at_front}

module _ (F : Field) (pt : ℕ → F.ring.El) (os : List ℕ) (x : F.ring.El) where
  open F use {ring}
  open F.ring use {El, nil as 𝟘, unit as 𝟙, add as ◌⊕◌, sub as ◌⊖◌, mul as ◌⊗◌, add_nil, mul_assoc, mul_add}

  infixl 60 ◌⊕◌
  infixl 60 ◌⊖◌
  infixl 70 ◌⊗◌
  -- the weight of place m
  abbrev w : ℕ → El
  w m = weigh F pt x (pt m) m os

  weighted_add : (v u : ℕ → El) (ms : List ℕ) → weighted F pt x os (λ m. v m ⊕ u m) ms ≡ weighted F pt x os v ms ⊕ weighted F pt x os u ms
  unfolding weighted
  weighted_add v u [] = sym (add_nil 𝟘)
  weighted_add v u (m ∷ ms) = ap₂ ◌⊕◌ (mul_add (w m) (v m) (u m)) (weighted_add v u ms)
      ∙ add_interchange ring (w m ⊗ v m) (w m ⊗ u m) (weighted F pt x os v ms) (weighted F pt x os u ms)

  weighted_scale : (k : El) (v : ℕ → El) (ms : List ℕ) → weighted F pt x os (λ m. k ⊗ v m) ms ≡ k ⊗ weighted F pt x os v ms
  unfolding weighted
  weighted_scale k v [] = sym (mul_nil ring k)
  weighted_scale k v (m ∷ ms) =
      ap₂ ◌⊕◌ (mul_left_comm ring (w m) k (v m)) (weighted_scale k v ms) ∙ sym (mul_add k (w m ⊗ v m) (weighted F pt x os v ms))

  weighted_same : (v u : ℕ → El) (ms : List ℕ) → Each (λ m. v m ≡ u m) ms → weighted F pt x os v ms ≡ weighted F pt x os u ms
  unfolding weighted
  weighted_same v u [] e = refl
  weighted_same v u (m ∷ ms) e = ap₂ (λ a b. w m ⊗ a ⊕ b) e.0 (weighted_same v u ms e.1)

  unfoldable pub defect : (El → El) → El
  defect g = weighted F pt x os (λ m. g (pt m)) os ⊖ g x

  pub defect_add : (g h : El → El) → defect (λ y. g y ⊕ h y) ≡ defect g ⊕ defect h
  unfolding defect
  defect_add g h =
      ap (λ a. a ⊖ (g x ⊕ h x)) (weighted_add (λ m. g (pt m)) (λ m. h (pt m)) os)
      ∙ sub_interchange ring (weighted F pt x os (λ m. g (pt m)) os) (weighted F pt x os (λ m. h (pt m)) os) (g x) (h x)

  pub defect_scale : (k : El) (g : El → El) → defect (λ y. k ⊗ g y) ≡ k ⊗ defect g
  unfolding defect
  defect_scale k g =
      ap (λ a. a ⊖ k ⊗ g x) (weighted_scale k (λ m. g (pt m)) os) ∙ sym (mul_sub ring k (weighted F pt x os (λ m. g (pt m)) os) (g x))

  pub defect_same : (g h : El → El) → ((m : ℕ) → In m os → g (pt m) ≡ h (pt m)) → g x ≡ h x → defect g ≡ defect h
  unfolding defect
  defect_same g h e d =
      ap₂ ◌⊖◌ (weighted_same (λ m. g (pt m)) (λ m. h (pt m)) os (each_intro (λ m. g (pt m) ≡ h (pt m)) os e)) d

  -- sums with the weights times differences
  unfoldable pub checked : (e : El → El) → (v : ℕ → El) → (ms : List ℕ) → El
  checked e v [] = 𝟘
  checked e v (m ∷ ms) = (w m ⊗ (e (pt m) ⊖ e x)) ⊗ v m ⊕ checked e v ms

  one_term : (a e c v : El) → (a ⊗ (e ⊖ c)) ⊗ v ≡ a ⊗ (e ⊗ v) ⊖ c ⊗ (a ⊗ v)
  one_term a e c v =
      ap (λ y. y ⊗ v) (mul_sub ring a e c)
      ∙ sym (sub_is ring (a ⊗ (e ⊗ v)) (c ⊗ (a ⊗ v)) ((a ⊗ e ⊖ a ⊗ c) ⊗ v)
      (ap (λ y. (a ⊗ e ⊖ a ⊗ c) ⊗ v ⊕ y) (mul_left_comm ring c a v ∙ sym (mul_assoc a c v)) ∙ sub_mul ring (a ⊗ e) (a ⊗ c) v ∙ mul_assoc a e v))

  checked_parts : (e : El → El) (v : ℕ → El) (ms : List ℕ)
      → checked e v ms ≡ weighted F pt x os (λ m. e (pt m) ⊗ v m) ms ⊖ e x ⊗ weighted F pt x os v ms
  unfolding checked weighted
  checked_parts e v [] = sym (ap (λ y. 𝟘 ⊖ y) (mul_nil ring (e x)) ∙ sub_self ring 𝟘)
  checked_parts e v (m ∷ ms) =
      let a = weighted F pt x os (λ m. e (pt m) ⊗ v m) ms in
      let b = weighted F pt x os v ms in
      ap₂ ◌⊕◌ (one_term (w m) (e (pt m)) (e x) (v m)) (checked_parts e v ms)
      ∙ sym (sub_interchange ring (w m ⊗ (e (pt m) ⊗ v m)) a (e x ⊗ (w m ⊗ v m)) (e x ⊗ b))
      ∙ ap (λ y. (w m ⊗ (e (pt m) ⊗ v m) ⊕ a) ⊖ y) (sym (mul_add (e x) (w m ⊗ v m) b))

  -- places with different points
  module _ (distinct : Distinct os) (differ : (i j : ℕ) → In i os → In j os → pt i ≡ pt j → i ≡ j) where
    pub defect_poly : (g : El → El) → Poly ring (length os) g → defect g ≡ 𝟘
    unfolding defect
    defect_poly g p = ap (λ a. a ⊖ g x) (lagrange F pt os distinct differ p x) ∙ sub_self ring (g x)

    pub checked_is : (e g : El → El) → Poly ring (length os) g → checked e (λ m. g (pt m)) os ≡ defect (λ y. e y ⊗ g y)
    unfolding defect
    checked_is e g p =
        checked_parts e (λ m. g (pt m)) os
        ∙ ap (λ a. weighted F pt x os (λ m. e (pt m) ⊗ g (pt m)) os ⊖ e x ⊗ a) (lagrange F pt os distinct differ p x)

    -- the point is none of theirs
    module _ (apart : (m : ℕ) → In m os → pt m ≢ x) (one : 𝟙 ≢ 𝟘) where
      pub defect_monic : (g : El → El) → Monic ring (length os) g → defect g ≢ 𝟘
      unfolding defect tabulate
      defect_monic g M z =
          let r : ℕ = length os in
          let v : ℕ → El = λ m. g (pt m) in
          let W = weighted_poly F pt os v os (each_intro (λ m. In m os) os (λ m i. i)) in
          let cs : List El = tabulate M.low.co (suc r) in
          let ds : List El = front ring (listed ring W.coefs) (suc r) in
          let n : length ds ≡ suc r = length_front ring (listed ring W.coefs) (suc r) in
          let l : length cs ≡ suc r = length_tabulate M.low.co (suc r) in
          let agree : (y : El) → weighted F pt y os v os ≡ g y → eval ring cs y ≡ eval ring ds y
          = λ y e. sym (M.low.is y (suc r) (omega arith)) ∙ sym e ∙ W.is y ∙ sym (value_listed ring W.coefs (suc r) y (omega (arith, W.few))) in
          let same : cs ≡ ds
          = unique_coefs F (x ∷ map pt os) cs ds
          (each_map pt (λ y. y ≢ x) os (each_intro (λ m. pt m ≢ x) os apart), distinct_map pt os differ distinct) (l ∙ sym n)
          (omega (arith, l, length-map os pt)) (
            agree x (eq_of_sub ring (weighted F pt x os v os) (g x) z),
            each_map pt (λ y. eval ring cs y ≡ eval ring ds y) os
                (each_intro (λ m. eval ring cs (pt m) ≡ eval ring ds (pt m)) os (λ m i. agree (pt m) (through F pt os distinct differ v m i))),
          ) in
          one (sym M.leading ∙ sym (at_tabulate M.low.co 𝟘 (suc r) r (omega arith)) ∙ ap (λ (es : List El). get_or es r 𝟘) same
          ∙ at_front ring (listed ring W.coefs) (suc r) r (omega arith) ∙ past_listed ring W.coefs r W.few)
