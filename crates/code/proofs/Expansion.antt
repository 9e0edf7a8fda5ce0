-- Encoding polynomials in blocks of r coefficients: in powers of X to the power size, and where the last group is short in powers of g. Assumes nothing.
--   value_whole     whole groups: the message itself is the coefficients
--   value_parts     a short last group: the first symbols with g, the last ones with h
--   value_short     so r coefficients of h times the last symbols, and then the first symbols
use mathlib.Core.Path.{◌≡◌, refl, sym, ap, ap₂, ◌∙◌}
use mathlib.Core.Bool.{Bool, true, false, cond}
use mathlib.Core.List.{List, [], ◌∷◌, ◌++◌}
use Prim.Native.Nat.{ℕ, suc, ◌+◌, ◌-◌, ◌/◌, ◌%◌, ◌≤◌, ◌<◌}
use native.Mathlib.Nat.{add-div_right, add-mod_right}
use native.Mathlib.Omega.{arith}
use borrow.Author.Tests.{lt-ltb, le-ltb}
use lib.Dec.{T, ltb, ltb→lt}
use lib.ListN.{length, take, drop, length-map, take-append-drop}
use lib.Seq.{length-take-le}
use Rattle.algebra.specs.Ring.{Ring, pow}
use Rattle.algebra.specs.Sequence.{all_below}
use Rattle.algebra.specs.Polynomial.{eval}
use Rattle.algebra.proofs.Ring.{mul_nil, nil_add, mul_left_comm}
use Rattle.algebra.proofs.Booleans.{and_left, and_right}
use Rattle.algebra.proofs.Below.{all_below_take, all_below_drop}
use Rattle.algebra.proofs.Based.{based, based_append, based_first}
use Rattle.algebra.proofs.Blocks.{vanish}
use Rattle.algebra.proofs.Folding.{terms_based}
use Rattle.field.specs.Field.{q, plus, times}
use Rattle.field.proofs.Elem.{Elem, ring_of, el, el_is}
use Rattle.field.proofs.Elements.{els}
use Rattle.code.specs.declared.Shape.{Shape}
use Rattle.code.specs.Shape.{size, whole}
use Rattle.code.specs.Basis.{lead, whole_basis, short_basis, basis, exponent}
use Rattle.code.specs.Codeword.{value_from, value}
use Rattle.code.specs.Laws.{Placed}
use Rattle.code.proofs.Codewords.{MessageIs}
use Rattle.code.proofs.Monomial.{value_terms}
use Rattle.code.proofs.Grouped.{exponent_raised}
use Rattle.code.proofs.ShortBasis.{goods, behind, part, part_is}

pub value_whole : (s : Shape) (P : Placed s) → s.second ≡ 0 → whole s ≡ true → (xs : List ℕ) → MessageIs s xs → (x : Elem s.field)
    → value s xs x.0 ≡ (based (ring_of s.field) s.r P.r_least (pow (ring_of s.field) x (size s)) x 0 (els s.field xs)).0
unfolding value
value_whole s P none w xs M x =
    sym (value_terms s w x 0 xs M.below)
    ∙ ap (λ (v : Elem s.field). v.0)
    (terms_based (ring_of s.field) s.r P.r_least (pow (ring_of s.field) x (size s)) (exponent s) (size s) x (exponent_raised s none) refl 0 (els s.field xs))

module _ (s : Shape) (P : Placed s) (short : whole s ≡ false) (x : Elem s.field) where
  abbrev f : ℕ
  f = s.field

  abbrev R : Ring
  R = ring_of s.field

  abbrev y : Elem s.field
  y = goods s x

  abbrev sums : ℕ → List (Elem s.field) → Elem s.field
  sums m ss = based R s.r P.r_least y x m ss

  basis_of : (m : ℕ) (b : Bool) → ltb m (lead s) ≡ b → basis s m x.0 ≡ (part s b m x).0
  unfolding basis
  basis_of m b e =
      ap (λ w. cond w (whole_basis s m x.0) (short_basis s m x.0)) short ∙ part_is s m x ∙ ap (λ b. (part s b m x).0) e

  head_below : (z : ℕ) (zs : List ℕ) → T (all_below (q f) (z ∷ zs)) → (z < q f) × T (all_below (q f) zs)
  unfolding all_below
  head_below z zs t = (ltb→lt z (q f) (and_left (ltb z (q f)) (all_below (q f) zs) t), and_right (ltb z (q f)) (all_below (q f) zs) t)

  -- the first symbols, those of g, and behind them others whose sum is known
  first_sum : (m : ℕ) (us bs : List ℕ) (w : Elem f) → m + length us ≤ lead s → T (all_below (q f) us)
      → value_from s x.0 (m + length us) bs ≡ w.0 → value_from s x.0 m (us ++ bs) ≡ (R.add (sums (m + s.r) (els f us)) w).0
  unfolding value_from based part
  first_sum m [] bs w h t e = ap (λ n. value_from s x.0 n bs) (omega arith) ∙ e ∙ ap (λ (v : Elem f). v.0) (sym (nil_add R w))
  first_sum m (u ∷ us) bs w h t e =
      let g = head_below u us t in
      let d : (m + s.r) / s.r ≡ 1 + m / s.r = add-div_right m P.r_least ∙ omega arith in
      ap₂ (plus f)
      (ap₂ (times f) (sym (el_is f u g.0))
      (basis_of m true (lt-ltb m (lead s) (omega arith))
      ∙ ap₂ (λ i o. (R.mul (pow R y i) (pow R x o)).0) (sym d) (sym (add-mod_right m s.r))))
      (first_sum (suc m) us bs w (omega arith) g.1 (ap (λ n. value_from s x.0 n bs) (omega arith) ∙ e))
      ∙ ap (λ (v : Elem f). v.0)
      (sym (R.add_assoc (R.mul (el f u) (R.mul (pow R y ((m + s.r) / s.r)) (pow R x ((m + s.r) % s.r)))) (sums (suc m + s.r) (els f us)) w)
      ∙ ap (λ n. R.add (R.add (R.mul (el f u) (R.mul (pow R y ((m + s.r) / s.r)) (pow R x ((m + s.r) % s.r)))) (sums n (els f us))) w) (omega arith))

  regroup : (u v p z : Elem f) → R.add (R.mul u (R.mul v p)) (R.mul (R.mul v (R.mul x p)) z) ≡ R.mul (R.mul v p) (R.add u (R.mul x z))
  regroup u v p z =
      cc (R.mul_add (R.mul v p) u (R.mul x z), R.mul_comm u (R.mul v p), mul_left_comm R v x p, R.mul_comm x (R.mul v p), R.mul_assoc (R.mul v p) x z)

  -- the last symbols, those of h
  last_sum : (m : ℕ) (bs : List ℕ) → lead s ≤ m → T (all_below (q f) bs)
      → value_from s x.0 m bs ≡ (R.mul (R.mul (vanish R (behind s) x) (pow R x (m - lead s))) (eval R (els f bs) x)).0
  unfolding value_from part eval pow
  last_sum m [] h t = ap (λ (v : Elem f). v.0) (sym (mul_nil R (R.mul (vanish R (behind s) x) (pow R x (m - lead s)))))
  last_sum m (b ∷ bs) h t =
      let g = head_below b bs t in
      let v = vanish R (behind s) x in
      let n : suc m - lead s ≡ suc (m - lead s) = omega arith in
      ap₂ (plus f)
      (ap₂ (times f) (sym (el_is f b g.0)) (basis_of m false (le-ltb m (lead s) h)))
      (last_sum (suc m) bs (omega arith) g.1 ∙ ap (λ o. (R.mul (R.mul v (pow R x o)) (eval R (els f bs) x)).0) n)
      ∙ ap (λ (v : Elem f). v.0) (regroup (el f b) v (pow R x (m - lead s)) (eval R (els f bs) x))

  pub value_parts : (xs : List ℕ) → MessageIs s xs → lead s ≤ s.k
      → value s xs x.0
      ≡ (R.add (sums (0 + s.r) (els f (take (lead s) xs))) (R.mul (vanish R (behind s) x) (eval R (els f (drop (lead s) xs)) x))).0
  unfolding value pow
  value_parts xs M h =
      let us = take (lead s) xs in
      let bs = drop (lead s) xs in
      let n : length us ≡ lead s = length-take-le (lead s) xs (omega (arith, M.length_is)) in
      ap (λ zs. value_from s x.0 0 zs) (sym (take-append-drop (lead s) xs))
      ∙ first_sum 0 us bs (R.mul (vanish R (behind s) x) (eval R (els f bs) x)) (omega arith) (all_below_take (q f) (lead s) xs M.below) (last_is n)
    where
      last_is : length (take (lead s) xs) ≡ lead s → value_from s x.0 (0 + length (take (lead s) xs)) (drop (lead s) xs)
          ≡ (R.mul (vanish R (behind s) x) (eval R (els f (drop (lead s) xs)) x)).0
      last_is n =
          let z : lead s - lead s ≡ 0 = omega arith in
          ap (λ m. value_from s x.0 m (drop (lead s) xs)) (omega arith)
          ∙ last_sum (lead s) (drop (lead s) xs) (omega arith) (all_below_drop (q f) (lead s) xs M.below)
          ∙ ap (λ (v : Elem f). (R.mul v (eval R (els f (drop (lead s) xs)) x)).0)
          (ap (λ o. R.mul (vanish R (behind s) x) (pow R x o)) z ∙ R.mul_unit (vanish R (behind s) x))

  -- ts are r coefficients of h times the last symbols
  pub value_short : (xs ts : List ℕ) → MessageIs s xs → lead s ≤ s.k → length ts ≡ s.r
      → eval R (els f ts) x ≡ R.mul (vanish R (behind s) x) (eval R (els f (drop (lead s) xs)) x)
      → value s xs x.0 ≡ (sums 0 (els f ts ++ els f (take (lead s) xs))).0
  value_short xs ts M h l e =
      let us = take (lead s) xs in
      let v = R.mul (vanish R (behind s) x) (eval R (els f (drop (lead s) xs)) x) in
      value_parts xs M h
      ∙ ap (λ (v : Elem f). v.0)
      (R.add_comm (sums (0 + s.r) (els f us)) v
      ∙ ap₂ R.add (sym (based_first R s.r P.r_least y x (els f ts) (omega (arith, length-map ts (el f))) ∙ e))
      (ap (λ n. sums n (els f us)) (omega (arith, length-map ts (el f))))
      ∙ sym (based_append R s.r P.r_least y x 0 (els f ts) (els f us)))
