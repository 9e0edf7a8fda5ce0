-- Lists of numbers below q as elements of the field, and back: lists, entries, polynomials and sums of products. Assumes nothing.
--   els f xs, nums f es    == the numbers of xs as elements; the elements of es as numbers
--   nums_els, els_append, els_nums, els_injective, nums_below
--   zeros_of_nums, nums_of_zeros    lists of zeros
--   el_at f xs m           == entry m of xs as an element
--   listed f k y           == the first k values of y as numbers; length_listed, at_listed, listed_below, el_at_listed
--   same_entries           two lists with the same elements
--   poly_nums, poly_els, poly_value, poly_below    polynomials on numbers are polynomials over the field
--   dotted_is              sums of products on numbers are sums over the field
use mathlib.Core.Path.{◌≡◌, refl, sym, ap, ap₂, ◌∙◌}
use mathlib.Core.List.{List, [], ◌∷◌, ◌++◌, map}
use Prim.Native.Nat.{ℕ, zero, suc, ◌+◌, ◌≤◌, ◌<◌}
use native.Mathlib.Nat.{add-zero}
use native.Mathlib.Omega.{arith}
use lib.Dec.{T, ltb, ltb→lt, lt→ltb}
use lib.ListN.{length, drop}
use lib.Seq.{drop-cons, ext_get_or}
use Rattle.algebra.specs.Sequence.{at, tabulate, all_below}
use Rattle.algebra.specs.Polynomial.{eval, Zeros}
use Rattle.algebra.specs.Equations.{dot}
use Rattle.algebra.proofs.Booleans.{and_left, and_right, and_both}
use Rattle.algebra.proofs.Tabulate.{length_tabulate, at_tabulate}
use Rattle.algebra.proofs.Below.{all_below_at, all_below_intro}
use Rattle.algebra.proofs.Coefficients.{front, front_value, value_zeros}
use Rattle.algebra.proofs.Equations.{dot_cong, dot_front}
use Rattle.field.specs.Field.{q, plus, times}
use Rattle.field.specs.Polynomial.{poly, dotted}
use Rattle.field.proofs.Laws.{laws}
use Rattle.field.proofs.Elem.{Elem, same, ring_of, el, el_is, el_val, zero_below, el_zero}

module _ (f : ℕ) where
  abbrev pub els : List ℕ → List (Elem f)
  els xs = map (el f) xs

  abbrev pub nums : List (Elem f) → List ℕ
  nums es = map (λ x. x.0) es

  pub nums_els : (xs : List ℕ) → T (all_below (q f) xs) → nums (els xs) ≡ xs
  unfolding all_below
  nums_els [] t = refl
  nums_els (x ∷ xs) t =
      ap₂ {B = List ℕ} ◌∷◌ (el_is f x (ltb→lt x (q f) (and_left (ltb x (q f)) (all_below (q f) xs) t)))
      (nums_els xs (and_right (ltb x (q f)) (all_below (q f) xs) t))

  pub els_injective : (xs ys : List ℕ) → T (all_below (q f) xs) → T (all_below (q f) ys) → els xs ≡ els ys → xs ≡ ys
  els_injective xs ys s t e = sym (nums_els xs s) ∙ ap nums e ∙ nums_els ys t

  pub els_append : (xs ys : List ℕ) → els (xs ++ ys) ≡ els xs ++ els ys
  els_append [] ys = refl
  els_append (x ∷ xs) ys = ap (λ zs. el f x ∷ zs) (els_append xs ys)

  pub els_nums : (es : List (Elem f)) → els (nums es) ≡ es
  els_nums [] = refl
  els_nums (x ∷ es) = ap₂ {B = List (Elem f)} ◌∷◌ (el_val f x) (els_nums es)

  pub nums_below : (es : List (Elem f)) → T (all_below (q f) (nums es))
  unfolding all_below
  nums_below [] = tt
  nums_below (x ∷ es) = and_both (ltb x.0 (q f)) (all_below (q f) (nums es)) (lt→ltb x.0 (q f) x.1) (nums_below es)

  pub poly_nums : (es : List (Elem f)) (x : Elem f) → poly f (nums es) x.0 ≡ (eval (ring_of f) es x).0
  unfolding poly eval
  poly_nums [] x = refl
  poly_nums (c ∷ es) x = ap (λ y. plus f c.0 (times f x.0 y)) (poly_nums es x)

  pub poly_els : (cs : List ℕ) → T (all_below (q f) cs) → (x : Elem f) → poly f cs x.0 ≡ (eval (ring_of f) (els cs) x).0
  poly_els cs t x = ap (λ l. poly f l x.0) (sym (nums_els cs t)) ∙ poly_nums (els cs) x

  pub zeros_of_nums : (es : List (Elem f)) → T (all_below 1 (nums es)) → Zeros (ring_of f) es
  unfolding all_below
  zeros_of_nums [] t = tt
  zeros_of_nums (x ∷ es) t =
      let a = and_left (ltb x.0 1) (all_below 1 (nums es)) t in
      (same f _ _ (omega (arith, ltb→lt x.0 1 a)), zeros_of_nums es (and_right (ltb x.0 1) (all_below 1 (nums es)) t))

  pub nums_of_zeros : (es : List (Elem f)) → Zeros (ring_of f) es → T (all_below 1 (nums es))
  unfolding all_below
  nums_of_zeros [] z = tt
  nums_of_zeros (x ∷ es) z =
      let e : x.0 ≡ 0 = ap (λ y. y.0) z.0 in
      and_both (ltb x.0 1) (all_below 1 (nums es)) (lt→ltb x.0 1 (omega arith)) (nums_of_zeros es z.1)

  -- entries as elements
  abbrev pub el_at : List ℕ → ℕ → Elem f
  el_at xs m = el f (at xs m)

  pub same_entries : (xs ys : List ℕ) → T (all_below (q f) xs) → T (all_below (q f) ys) → length xs ≡ length ys
      → ((m : ℕ) → m < length xs → el_at xs m ≡ el_at ys m) → xs ≡ ys
  same_entries xs ys s t l h =
      ext_get_or 0 xs ys l
      (λ i b. sym (el_is f (at xs i) (all_below_at (q f) xs s i b)) ∙ ap (λ x. x.0) (h i b) ∙ el_is f (at ys i) (all_below_at (q f) ys t i (omega arith)))

  -- elements as a list of numbers
  unfoldable pub listed : (k : ℕ) → (ℕ → Elem f) → List ℕ
  listed k y = tabulate (λ m. (y m).0) k

  module _ (k : ℕ) (y : ℕ → Elem f) where
    pub length_listed : length (listed k y) ≡ k
    unfolding listed
    length_listed = length_tabulate (λ m. (y m).0) k

    pub at_listed : (m : ℕ) → m < k → at (listed k y) m ≡ (y m).0
    unfolding listed
    at_listed m h = at_tabulate (λ m. (y m).0) 0 k m h

    pub listed_below : T (all_below (q f) (listed k y))
    listed_below = all_below_intro (q f) (listed k y) (λ i h. rw (at_listed i (omega (arith, length_listed))) (y i).1)

    pub el_at_listed : (m : ℕ) → m < k → el_at (listed k y) m ≡ y m
    el_at_listed m h = ap (el f) (at_listed m h) ∙ el_val f (y m)

  -- polynomials by their entries
  pub poly_below : (cs : List ℕ) (x : ℕ) → poly f cs x < q f
  unfolding poly
  poly_below [] x = zero_below f
  poly_below (c ∷ cs) x = (laws f).plus_below c (times f x (poly f cs x))

  pub poly_value : (cs : List ℕ) (l x : ℕ) (h : x < q f) → length cs ≤ l → ((m : ℕ) → at cs m < q f)
      → poly f cs x ≡ (front_value (ring_of f) (el_at cs) l (x, h)).0
  unfolding poly front eval
  poly_value [] l x h b s = sym (ap (λ y. y.0) (value_zeros (ring_of f) (el_at []) l (x, h) (λ m g. el_zero f)))
  poly_value (c ∷ cs) zero x h b s = absurd (omega arith)
  poly_value (c ∷ cs) (suc l) x h b s =
      ap₂ (λ u v. plus f u (times f x v)) (sym (el_is f c (s 0))) (poly_value cs l x h (omega arith) (λ m. s (suc m)))

  -- sums of products: ys with the entries of w from b on
  pub dotted_is : (ys w : List ℕ) (b : ℕ) → b + length ys ≤ length w → ((m : ℕ) → m < length ys → at ys m < q f)
      → ((m : ℕ) → m < length ys → at w (b + m) < q f)
      → (dot (ring_of f) (length ys) (λ m. el_at w (b + m)) (el_at ys)).0 ≡ dotted f ys (drop b w)
  unfolding dot dotted
  dotted_is [] w b l h g = refl
  dotted_is (y ∷ ys) w b l h g =
      rw (drop-cons w b 0 (omega arith))
      (ap (λ x. x.0) (dot_front (ring_of f) (length ys) (λ m. el_at w (b + m)) (el_at (y ∷ ys)))
      ∙ ap₂ (plus f) first (ap (λ x. x.0) later ∙ dotted_is ys w (suc b) (omega arith) (λ m n. h (suc m) (omega arith)) after))
    where
      here : at w b < q f
      here = rw add-zero at (g 0 (omega arith))

      first : times f (el_at w (b + 0)).0 (el f y).0 ≡ times f y (at w b)
      first =
          ap₂ (times f) (ap (λ n. (el_at w n).0) (add-zero b) ∙ el_is f (at w b) here) (el_is f y (h 0 (omega arith)))
          ∙ (laws f).times_comm (at w b) y here (h 0 (omega arith))

      next : (m : ℕ) → b + suc m ≡ suc b + m
      next m = omega arith

      after : (m : ℕ) → m < length ys → at w (suc b + m) < q f
      after m n = rw (← next m) (g (suc m) (omega arith))

      later : dot (ring_of f) (length ys) (λ m. el_at w (b + suc m)) (el_at ys) ≡ dot (ring_of f) (length ys) (λ m. el_at w (suc b + m)) (el_at ys)
      later =
          dot_cong (ring_of f) (length ys) (λ m. el_at w (b + suc m)) (λ m. el_at w (suc b + m)) (el_at ys) (el_at ys)
          (λ m n. ap (λ x. (ring_of f).mul (el_at w x) (el_at ys m)) (next m))
