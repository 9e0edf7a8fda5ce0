-- The value of an encoding polynomial by coefficients of the basis polynomials. Assumes nothing.
--   Listed s l               == at most l coefficients for each message symbol
--   Gives s l L x            == with them polynomials have the values of the basis polynomials at x
--   sums_value               sums of symbol times value of basis polynomial
--   coefficient s l L m j    == coefficient j of basis polynomial m; sums_is: the sums of these polynomials are the value at x
--   combined s l L xs        == the l coefficients of the encoding polynomial of xs; combined_is: they give its value at x
use mathlib.Core.Path.{◌≡◌, refl, sym, ap, ap₂, ◌∙◌}
use mathlib.Core.List.{List, [], ◌∷◌}
use Prim.Native.Nat.{ℕ, suc, ◌+◌, ◌≤◌, ◌<◌}
use native.Mathlib.Decide.{dec_lt}
use native.Mathlib.Omega.{arith}
use lib.Dec.{T, ltb, ltb→lt}
use lib.ListN.{length, length-map, get_or}
use Rattle.algebra.specs.Ring.{Ring}
use Rattle.algebra.specs.Sequence.{all_below, tabulate_from, tabulate}
use Rattle.algebra.specs.Polynomial.{eval}
use Rattle.algebra.proofs.Booleans.{and_left, and_right}
use Rattle.algebra.proofs.Tabulate.{length_tabulate, tabulate_is}
use Rattle.algebra.proofs.Polynomial.{pad, length_pad, eval_pad}
use Rattle.algebra.proofs.Mixed.{mix, sums, eval_mix}
use Rattle.field.specs.Field.{q, plus, times}
use Rattle.field.specs.Polynomial.{poly}
use Rattle.field.proofs.Elem.{Elem, ring_of, el, el_is}
use Rattle.field.proofs.Elements.{els, poly_els}
use Rattle.code.specs.declared.Shape.{Shape}
use Rattle.code.specs.Basis.{basis}
use Rattle.code.specs.Codeword.{value_from, value}
use Rattle.code.proofs.Codewords.{MessageIs}

-- at most l coefficients for each message symbol
pub record Listed (s : Shape) (l : ℕ) : Type 0 where
  pub coefs : (m : ℕ) → m < s.k → List ℕ
  pub few : (m : ℕ) (h : m < s.k) → length (coefs m h) ≤ l
  pub below : (m : ℕ) (h : m < s.k) → T (all_below (q s.field) (coefs m h))

-- which give the values of the basis polynomials at x
abbrev pub Gives : (s : Shape) (l : ℕ) → Listed s l → (x : ℕ) → Type 0
Gives s l L x = (m : ℕ) (h : m < s.k) → basis s m x ≡ poly s.field (L.coefs m h) x

pub sums_value : (s : Shape) (b : ℕ → ℕ → Elem s.field) (l : ℕ) (x : Elem s.field)
    → ((m : ℕ) → m < s.k → (eval (ring_of s.field) (tabulate_from (b m) l 0) x).0 ≡ basis s m x.0)
    → (m : ℕ) (ys : List ℕ) → m + length ys ≤ s.k → T (all_below (q s.field) ys)
    → (sums (ring_of s.field) b x l m (els s.field ys)).0 ≡ value_from s x.0 m ys
unfolding sums value_from all_below
sums_value s b l x g m [] h t = refl
sums_value s b l x g m (y ∷ ys) h t =
    let f = s.field in
    ap₂ (plus f) (ap₂ (times f) (el_is f y (ltb→lt y (q f) (and_left (ltb y (q f)) (all_below (q f) ys) t))) (g m (omega arith)))
    (sums_value s b l x g (suc m) ys (omega arith) (and_right (ltb y (q f)) (all_below (q f) ys) t))

module _ (s : Shape) (l : ℕ) (L : Listed s l) where
  abbrev f : ℕ
  f = s.field

  abbrev R : Ring
  R = ring_of s.field

  listed : (m : ℕ) → Dec (m < s.k) → List (Elem f)
  listed m (yes h) = pad R l (els f (L.coefs m h))
  listed m (no h) = []

  -- coefficient j of basis polynomial m
  pub coefficient : ℕ → ℕ → Elem s.field
  coefficient m j = get_or (listed m (dec_lt m s.k)) j (ring_of s.field).nil

  coefficient_value : (m : ℕ) → m < s.k → (x : Elem f) → Gives s l L x.0 → (eval R (tabulate_from (coefficient m) l 0) x).0 ≡ basis s m x.0
  unfolding coefficient listed tabulate
  coefficient_value m h x g = go (dec_lt m s.k)
    where
      go : (d : Dec (m < s.k)) → (eval R (tabulate_from (λ j. get_or (listed m d) j R.nil) l 0) x).0 ≡ basis s m x.0
      go (yes b) =
          let cs = els f (L.coefs m b) in
          let long : length (pad R l cs) ≡ l = length_pad R l cs (omega (arith, L.few m b, length-map (L.coefs m b) (el f))) in
          ap (λ ds. (eval R ds x).0) (sym (tabulate_is (λ j. get_or (pad R l cs) j R.nil) R.nil l (pad R l cs) long (λ i c. refl)))
          ∙ ap (λ y. y.0) (eval_pad R l cs x) ∙ sym (g m b ∙ poly_els f (L.coefs m b) (L.below m b) x)
      go (no b) = absurd (b h)

  pub sums_is : (xs : List ℕ) → MessageIs s xs → (x : Elem s.field) → Gives s l L x.0
      → (sums (ring_of s.field) coefficient x l 0 (els s.field xs)).0 ≡ value s xs x.0
  unfolding value
  sums_is xs M x g = sums_value s coefficient l x (λ m h. coefficient_value m h x g) 0 xs (omega (arith, M.length_is)) M.below

  abbrev pub combined : List ℕ → List (Elem s.field)
  combined xs = tabulate (mix (ring_of s.field) coefficient 0 (els s.field xs)) l

  pub length_combined : (xs : List ℕ) → length (combined xs) ≡ l
  length_combined xs = length_tabulate (mix R coefficient 0 (els s.field xs)) l

  pub combined_is : (xs : List ℕ) → MessageIs s xs → (x : Elem s.field) → Gives s l L x.0
      → (eval (ring_of s.field) (combined xs) x).0 ≡ value s xs x.0
  unfolding tabulate
  combined_is xs M x g = ap (λ y. y.0) (eval_mix R coefficient x l 0 (els f xs)) ∙ sums_is xs M x g
