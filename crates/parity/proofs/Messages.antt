-- Messages whose codewords have given symbols at a slot's mates. Assumes nothing.
--   given, given_long, given_below    the symbols, one for each mate
--   through_them    the polynomial with r coefficients through them, and 0 behind the slots
--   curve, curve_poly, curve_through  so as a function of the field
--   held_by         a message with its values at the mates
--   whole_held      whole groups: there is one where the polynomial has few coefficients
--   parts           a short last group: the polynomial by h
--   short_held      there is one where the rest has few coefficients
use mathlib.Core.Path.{◌≡◌, refl, sym, ap, ap₂, ◌∙◌}
use mathlib.Core.Bool.{true, false}
use mathlib.Core.List.{List, map}
use Prim.Native.Nat.{ℕ, ◌+◌, ◌-◌, ◌≤◌, ◌<◌}
use native.Mathlib.Omega.{arith}
use lib.Dec.{T}
use lib.ListN.{length, length-map, take}
use lib.Seq.{length-take-le, get_or-take}
use Rattle.algebra.specs.Ring.{Ring}
use Rattle.algebra.specs.Sequence.{at, all_below, Each}
use Rattle.algebra.specs.Polynomial.{eval, Poly}
use Rattle.algebra.proofs.Ring.{nil_add}
use Rattle.algebra.proofs.Booleans.{so, yes_true}
use Rattle.algebra.proofs.Below.{all_below_intro}
use Rattle.algebra.proofs.At.{at_map}
use Rattle.algebra.proofs.Each.{each_intro, each_index, map_each}
use Rattle.algebra.proofs.Tabulate.{length_from}
use Rattle.algebra.proofs.Polynomial.{poly_of, poly_more}
use Rattle.algebra.proofs.Coefficients.{front_value, value_zeros, value_short, value_add_scaled}
use Rattle.algebra.proofs.Blocks.{vanish}
use Rattle.field.specs.Field.{q}
use Rattle.field.specs.Polynomial.{poly}
use Rattle.field.proofs.Elem.{Elem, ring_of, el, inv}
use Rattle.field.proofs.Elements.{els, poly_els}
use Rattle.code.specs.declared.Shape.{Shape}
use Rattle.code.specs.Shape.{missing, whole, group, point, mates}
use Rattle.code.specs.Basis.{lead}
use Rattle.code.specs.Codeword.{value, symbol}
use Rattle.code.specs.Held.{held}
use Rattle.code.specs.Laws.{Placed, Decodable}
use Rattle.code.specs.Promise.{Interpolates, RepairInterpolates}
use Rattle.code.proofs.Bounds.{lead_parts}
use Rattle.code.proofs.Places.{n_room}
use Rattle.code.proofs.Points.{locator, locator_is}
use Rattle.code.proofs.Codewords.{at_encoded}
use Rattle.code.proofs.Mates.{mates_below, mate_other}
use Rattle.code.proofs.Others.{other_is}
use Rattle.code.proofs.Held.{has_of, held_of}
use Rattle.code.proofs.Interpolating.{repair_interpolates}
use Rattle.code.proofs.ShortBasis.{goods, behind, goods_on_group}
use Rattle.parity.specs.Promise.{Symbols}
use Rattle.parity.proofs.Listed.{listed, value_listed}
use Rattle.parity.proofs.Splitting.{Split, split}
use Rattle.parity.proofs.Values.{Built, whole_built, short_built}

module _ (s : Shape) (D : Decodable s) (p : ℕ) (inside : p < s.n) (ys : List ℕ) (Y : Symbols s p ys) where
  abbrev P : Placed s
  P = D.plain.family.placed

  abbrev f : ℕ
  f = s.field

  abbrev R : Ring
  R = ring_of s.field

  abbrev pub given : List ℕ
  given = take (length (mates s p)) ys

  pub given_long : length given ≡ length (mates s p)
  given_long = length-take-le (length (mates s p)) ys Y.0

  pub given_below : T (all_below (q s.field) given)
  given_below =
      all_below_intro (q f) given
      (λ i h. let l : i < length (mates s p) = omega (arith, given_long) in rw (get_or-take (length (mates s p)) ys i 0 l) (Y.1 i l))

  pub through_them : Interpolates s p given
  unfolding RepairInterpolates
  through_them = repair_interpolates s p given P D.one inside given_long (yes_true (all_below (q f) given) given_below)

  abbrev pub coefs : List (Elem s.field)
  coefs = els s.field through_them.coefs

  pub coefs_number : length coefs ≡ s.r
  coefs_number = length-map through_them.coefs (el f) ∙ through_them.through.few

  abbrev pub curve : Elem s.field → Elem s.field
  curve y = eval (ring_of s.field) coefs y

  pub curve_poly : Poly (ring_of s.field) s.r curve
  curve_poly = poly_more R (length coefs) s.r (omega (arith, coefs_number)) (poly_of R coefs)

  pub curve_at : (m : ℕ) → (curve (locator s m)).0 ≡ poly s.field through_them.coefs (point s m)
  curve_at m = sym (poly_els f through_them.coefs (so through_them.through.below) (locator s m)) ∙ ap (poly f through_them.coefs) (locator_is s m)

  pub curve_through : map (λ m. (curve (locator s m)).0) (mates s p) ≡ given
  curve_through =
      map_each (λ m. (curve (locator s m)).0) (λ m. poly f through_them.coefs (point s m)) (mates s p)
      (each_intro (λ m. (curve (locator s m)).0 ≡ poly f through_them.coefs (point s m)) (mates s p) (λ m i. curve_at m))
      ∙ through_them.through.is

  pub held_by : (g : Elem s.field → Elem s.field) → Built s g → Each (λ m. g (locator s m) ≡ curve (locator s m)) (mates s p) → held s (mates s p) ys ≡ true
  unfolding symbol
  held_by g B e =
      held_of s (mates s p) ys B.message B.good
      (has_of s B.message (mates s p) ys
      (λ i h. let m : ℕ = at (mates s p) i in
      at_encoded s B.message m (each_index (λ m. m < s.n) (mates s p) (mates_below s P p inside) i h)
      ∙ ap (value s B.message) (sym (locator_is s m)) ∙ B.is (locator s m)
      ∙ ap (λ (v : Elem f). v.0) (each_index (λ m. g (locator s m) ≡ curve (locator s m)) (mates s p) e i h)
      ∙ sym (at_map (λ m. (curve (locator s m)).0) (mates s p) i h)
      ∙ ap (λ l. at l i) curve_through ∙ get_or-take (length (mates s p)) ys i 0 h))

  pub whole_held : whole s ≡ true → (m : ℕ) → m ≤ s.r → m ≤ s.k → ((i : ℕ) → m ≤ i → i < s.r → listed (ring_of s.field) coefs i ≡ (ring_of s.field).nil)
      → held s (mates s p) ys ≡ true
  whole_held w m h l z =
      held_by (front_value R (listed R coefs) m) (whole_built s P D.plain.second_none w (listed R coefs) m h l)
      (each_intro (λ o. front_value R (listed R coefs) m (locator s o) ≡ curve (locator s o)) (mates s p)
      (λ o i. sym (value_short R (listed R coefs) m s.r (locator s o) h z) ∙ value_listed R coefs s.r (locator s o) (omega (arith, coefs_number))))

  module _ (short : whole s ≡ false) where
    pub lead_is : lead s + s.r ≡ s.k + missing s
    lead_is = lead_parts s (D.plain.k_last short)

    pub lead_most : missing s ≤ s.r → lead s ≤ s.k
    lead_most h = omega (arith, lead_is)

    pub parts : missing s ≤ s.r → Split (ring_of s.field) (behind s) (s.k - lead s) curve
    parts h =
        split R (behind s) (s.k - lead s) curve
        (poly_more R s.r (length (behind s) + (s.k - lead s)) (omega (arith, length_from (locator s) (missing s) s.n, lead_is)) curve_poly)

    -- the rest by its first m coefficients
    pub rest_front : (b : missing s ≤ s.r) (m : ℕ) → m ≤ missing s
        → ((i : ℕ) → m ≤ i → i < missing s → listed (ring_of s.field) (parts b).rest_poly.coefs i ≡ (ring_of s.field).nil)
        → (x : Elem s.field) → front_value (ring_of s.field) (listed (ring_of s.field) (parts b).rest_poly.coefs) m x ≡ (parts b).rest x
    rest_front b m h z x =
        let S = parts b in
        let rs = S.rest_poly.coefs in
        sym (value_short R (listed R rs) m (missing s) x h z)
        ∙ value_listed R rs (missing s) x (omega (arith, S.rest_poly.few, length_from (locator s) (missing s) s.n)) ∙ sym (S.rest_poly.is x)

    abbrev level : Elem f
    level = goods s (locator s p)

    pub short_held : (b : missing s ≤ s.r) (m : ℕ) → m ≤ s.r → m ≤ lead s
        → ((x : Elem s.field) → front_value (ring_of s.field) (listed (ring_of s.field) (parts b).rest_poly.coefs) m x ≡ (parts b).rest x)
        → ((x : Elem s.field) → (ring_of s.field).mul (goods s (locator s p)) ((ring_of s.field).mul (inv s.field (goods s (locator s p))) ((parts b).rest x)) ≡ (parts b).rest x)
        → held s (mates s p) ys ≡ true
    short_held b m h l rest back =
        let S = parts b in
        let rs = S.rest_poly.coefs in
        let us = S.quot_poly.coefs in
        let a : ℕ → Elem f = λ i. R.mul (inv f level) (listed R rs i) in
        let v : Elem f → Elem f = vanish R (behind s) in
        let scaled : (y : Elem f) → front_value R a m y ≡ R.mul (inv f level) (S.rest y)
        = λ y.
        value_add_scaled R a (λ _. R.nil) (listed R rs) (inv f level) m y (λ i d. sym (nil_add R (a i)))
        ∙ ap₂ R.add (value_zeros R (λ _. R.nil) m y (λ i d. refl)) (ap (R.mul (inv f level)) (rest y)) ∙ nil_add R (R.mul (inv f level) (S.rest y)) in
        held_by (λ x. R.add (R.mul (goods s x) (front_value R a m x)) (R.mul (v x) (front_value R (listed R us) (s.k - lead s) x)))
        (short_built s P short (lead_most b) a (listed R us) m h l)
        (each_intro (λ o. R.add (R.mul (goods s (locator s o)) (front_value R a m (locator s o))) (R.mul (v (locator s o)) (front_value R (listed R us) (s.k - lead s) (locator s o))) ≡ curve (locator s o)) (mates s p)
        (λ o i. let y = locator s o in
        ap₂ R.add
        (ap₂ R.mul
        (goods_on_group s P (group s p) o (other_is s P p (omega (arith, n_room s P)) (mate_other s P p inside i)).group_same ∙ sym (goods_on_group s P (group s p) p refl))
        (scaled y) ∙ back y)
        (ap (R.mul (v y)) (value_listed R us (s.k - lead s) y S.quot_poly.few ∙ sym (S.quot_poly.is y)))
        ∙ R.add_comm (S.rest y) (R.mul (v y) (S.quot y)) ∙ sym (S.is y)))
