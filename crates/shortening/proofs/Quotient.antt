-- A polynomial divided by X - β over the missing points β, from the last to the first: divided by h. Assumes nothing.
--   Quotient s cs i z        == z is cs divided by X - β over the missing points β from the i-th on; those before are roots of it
--   quotient_none, quotient_more, quotient_done
use mathlib.Core.Path.{◌≡◌, sym, ap, ap₂, ◌∙◌, subst}
use mathlib.Core.Logic.{◌≢◌}
use mathlib.Core.List.{List}
use Prim.Native.Nat.{ℕ, suc, ◌+◌, ◌-◌, ◌≤◌, ◌<◌}
use native.Mathlib.Decide.{dec_lt}
use native.Mathlib.Omega.{arith}
use lib.Dec.{T}
use lib.ListN.{length, take, replicate, length-replicate}
use lib.Seq.{length-take-le, get_or-take}
use Rattle.algebra.specs.Ring.{Ring}
use Rattle.algebra.specs.Sequence.{at, all_below, tabulate_from}
use Rattle.algebra.specs.Writing.{Laid}
use Rattle.algebra.specs.Polynomial.{eval}
use Rattle.algebra.proofs.Ring.{unit_mul, mul_left_comm}
use Rattle.algebra.proofs.Booleans.{yes_true}
use Rattle.algebra.proofs.At.{at_past, at_zeros}
use Rattle.algebra.proofs.Below.{all_below_any, all_below_intro, all_below_take}
use Rattle.algebra.proofs.Blocks.{vanish}
use Rattle.field.specs.Field.{q, times}
use Rattle.field.specs.Polynomial.{poly}
use Rattle.field.proofs.Elem.{Elem, same, ring_of, zero_below}
use Rattle.field.proofs.Elements.{els, poly_els}
use Rattle.field.proofs.Values.{poly_ext}
use Rattle.code.specs.declared.Shape.{Shape}
use Rattle.code.specs.Shape.{room, missing, point}
use Rattle.code.specs.Basis.{vanish_from, vanishing}
use Rattle.code.specs.Laws.{Placed}
use Rattle.code.proofs.Places.{missing_inside}
use Rattle.code.proofs.Points.{locator, locator_is, locators_differ}
use Rattle.code.proofs.ShortBasis.{vanish_is}
use Rattle.shortening.specs.Step.{Divided, LastSymbols}
use Rattle.shortening.proofs.Division.{divided_value, divided_root, divided_few, divided_below}

pub record Quotient (s : Shape) (cs : List ℕ) (i : ℕ) (z : List ℕ) : Type 0 where
  pub size : length z ≡ 16
  pub below : T (all_below (q s.field) z)
  pub few : (p : ℕ) → s.r + i ≤ p + missing s → at z p ≡ 0
  pub roots : (j : ℕ) → j < i → eval (ring_of s.field) (els s.field z) (locator s (s.n + j)) ≡ (ring_of s.field).nil
  pub product : (x : Elem s.field) → eval (ring_of s.field) (els s.field cs) x
      ≡ (ring_of s.field).mul (vanish (ring_of s.field) (tabulate_from (locator s) (missing s - i) (s.n + i)) x)
      (eval (ring_of s.field) (els s.field z) x)

module _ (s : Shape) (P : Placed s) where
  abbrev F : ℕ
  F = s.field

  abbrev K : Ring
  K = ring_of s.field

  module _ (rs z : List ℕ) (l : s.r ≤ length rs) (t : T (all_below (q s.field) rs))
      (zero : (p : ℕ) → s.n ≤ p → p < room s → poly s.field (take s.r rs) (point s p) ≡ 0)
      (L : Laid (λ i. at rs (0 + i)) 0 s.r (replicate 16 0) z) where
    entries : (p : ℕ) → at (take s.r rs) p ≡ at z p
    entries p = go (dec_lt p s.r)
      where
        go : Dec (p < s.r) → at (take s.r rs) p ≡ at z p
        go (yes h) = get_or-take s.r rs p 0 h ∙ sym (L.written.put p (omega arith) (omega arith) ∙ ap (at rs) (omega arith))
        go (no h) = at_past (take s.r rs) p (omega (arith, length-take-le s.r rs l)) ∙ sym (L.written.behind p (omega arith) ∙ at_zeros 16 p)

    first_below : T (all_below (q F) (take s.r rs))
    first_below = all_below_take (q F) s.r rs t

    z_any : (p : ℕ) → at z p < q F
    z_any p = rw (← entries p) (all_below_any (q F) (take s.r rs) (zero_below F) first_below p)

    z_below : T (all_below (q F) z)
    z_below = all_below_intro (q F) z (λ p h. z_any p)

    same_value : (x : Elem F) → eval K (els F (take s.r rs)) x ≡ eval K (els F z) x
    same_value x =
        same F _ _
        (sym (poly_els F (take s.r rs) first_below x) ∙ poly_ext F (take s.r rs) z x.0 x.1 entries ∙ poly_els F z z_below x)

    pub quotient_none : Quotient s (take s.r rs) (missing s) z
    unfolding vanish tabulate_from
    quotient_none =
        record {
          size = L.written.size ∙ length-replicate {A = ℕ} 16 0;
          below = z_below;
          few = λ p h. L.written.behind p (omega arith) ∙ at_zeros 16 p;
          roots = λ j h.
              let x = locator s (s.n + j) in
              same F _ _
              (ap (λ (v : Elem F). v.0) (sym (same_value x)) ∙ sym (poly_els F (take s.r rs) first_below x)
              ∙ ap (poly F (take s.r rs)) (locator_is s (s.n + j)) ∙ zero (s.n + j) (omega arith) (missing_inside s P j h));
          product = λ x.
              let e : missing s - missing s ≡ 0 = omega arith in
              same_value x
              ∙ sym (ap (λ l. K.mul (vanish K (tabulate_from (locator s) l (s.n + missing s)) x) (eval K (els F z) x)) e ∙ unit_mul K (eval K (els F z) x));
        }

  module _ (cs z w : List ℕ) (j y : ℕ) (h : j < missing s) (e : y ≡ point s (s.n + j)) (D : Divided s.field y z w) (Q : Quotient s cs (suc j) z) where
    abbrev β : Elem s.field
    β = locator s (s.n + j)

    D_at : Divided F β.0 z w
    D_at = subst (λ n. Divided F n z w) (e ∙ sym (locator_is s (s.n + j))) D

    root : eval K (els F z) β ≡ K.nil
    root = Q.roots j (omega arith)

    other : (i : ℕ) → i < j → locator s (s.n + i) ≢ β
    other i b k = absurd (omega (arith, locators_differ s P (s.n + i) (s.n + j) (missing_inside s P i (omega arith)) (missing_inside s P j h) k))

    gather : (v u g : Elem F) → K.mul v (K.mul u g) ≡ K.mul (K.mul u v) g
    gather v u g = mul_left_comm K v u g ∙ sym (K.mul_assoc u v g)

    pub quotient_more : Quotient s cs j w
    unfolding vanish tabulate_from
    quotient_more =
        record {
          size = D.size ∙ Q.size;
          below = divided_below F β z w Q.below D_at;
          few = λ p b. divided_few F β z w Q.below D_at p (λ i l. Q.few i (omega arith)) p (omega arith);
          roots = λ i b. divided_root F β z w Q.below D_at root (locator s (s.n + i)) (other i b) (Q.roots i (omega arith));
          product = λ x.
              let n : missing s - j ≡ suc (missing s - suc j) = omega arith in
              let m : s.n + suc j ≡ suc (s.n + j) = omega arith in
              Q.product x
              ∙ ap₂ (λ o v. K.mul (vanish K (tabulate_from (locator s) (missing s - suc j) o) x) v) m (divided_value F β z w Q.below D_at root x)
              ∙ gather (vanish K (tabulate_from (locator s) (missing s - suc j) (suc (s.n + j))) x) (K.sub x β) (eval K (els F w) x)
              ∙ sym (ap (λ l. K.mul (vanish K (tabulate_from (locator s) l (s.n + j)) x) (eval K (els F w) x)) n);
        }

  pub quotient_done : (cs z : List ℕ) → T (all_below (q s.field) cs) → Quotient s cs 0 z → LastSymbols s cs z
  unfolding vanishing
  quotient_done cs z t Q =
      record {
        room = Q.size;
        below = yes_true (all_below (q F) z) Q.below;
        few = λ p h. Q.few p (omega arith);
        same = λ x h.
            let n : missing s - 0 ≡ missing s = omega arith in
            let m : s.n + 0 ≡ s.n = omega arith in
            poly_els F cs t (x, h) ∙ ap (λ (v : Elem F). v.0) (Q.product (x, h))
            ∙ ap₂ (times F) (vanish_is s (x, h) (missing s - 0) (s.n + 0) ∙ ap₂ (λ l o. vanish_from s l o x) n m) (sym (poly_els F z Q.below (x, h)));
      }
