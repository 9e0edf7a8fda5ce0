-- How a family shows its laws: from polynomials over the field, and from a code of polynomials' values. Assumes nothing.
--   polynomial_of       Polynomial of specs/Laws.antt from one over the field
--   on_group_of         OnGroup from one that has the values at the group's points
--   independent_of      only the message 0 has the value 0 everywhere, by a code whose symbols these values are
use mathlib.Core.Path.{◌≡◌, sym, ap, ◌∙◌}
use mathlib.Core.Bool.{true}
use mathlib.Core.List.{List}
use Prim.Native.Nat.{ℕ, ◌<◌}
use lib.ListN.{length-map}
use Rattle.algebra.specs.Sequence.{all_below}
use Rattle.algebra.specs.Polynomial.{Poly}
use Rattle.algebra.specs.EvaluationCode.{EvaluationCode, symbol_at}
use Rattle.algebra.proofs.Booleans.{yes_true}
use Rattle.algebra.proofs.Polynomial.{pad, length_pad, eval_pad}
use Rattle.algebra.proofs.Zeros.{zero_message}
use Rattle.field.specs.Field.{q}
use Rattle.field.specs.Polynomial.{poly}
use Rattle.field.proofs.Elem.{Elem, same as same_el, ring_of, field_of, el}
use Rattle.field.proofs.Elements.{els, nums, nums_els, nums_below, nums_of_zeros, poly_nums}
use Rattle.code.specs.declared.Shape.{Shape}
use Rattle.code.specs.Shape.{room, group, point}
use Rattle.code.specs.Basis.{degree}
use Rattle.code.specs.Codeword.{is_message, value, symbol}
use Rattle.code.specs.Laws.{Polynomial, OnGroup}
use Rattle.code.proofs.Points.{locator, locator_is, point_below}
use Rattle.code.proofs.Codewords.{MessageIs, message_is}

pub polynomial_of : (f l : ℕ) (g : Elem f → Elem f) (h : ℕ → ℕ) → Poly (ring_of f) l g → ((x : Elem f) → h x.0 ≡ (g x).0) → Polynomial f l h
polynomial_of f l g h p e =
    record {
      coefs = nums f p.coefs;
      few = rw (length-map p.coefs (λ x. x.0)) p.few;
      below = yes_true (all_below (q f) (nums f p.coefs)) (nums_below f p.coefs);
      is = λ x b. e (x, b) ∙ ap (λ y. y.0) (p.is (x, b)) ∙ sym (poly_nums f p.coefs (x, b));
    }

module _ (s : Shape) where
  pub on_group_of : (j : ℕ) (g : Elem s.field → Elem s.field) (h : ℕ → ℕ) → Poly (ring_of s.field) s.r g
      → ((p : ℕ) → p < room s → group s p ≡ j → h (point s p) ≡ (g (locator s p)).0) → OnGroup s j h
  on_group_of j g h p e =
      let f = s.field in
      let R = ring_of s.field in
      let es = pad R s.r p.coefs in
      record {
        coefs = nums f es;
        few = length-map es (λ x. x.0) ∙ length_pad R s.r p.coefs p.few;
        below = yes_true (all_below (q f) (nums f es)) (nums_below f es);
        is = λ o b i.
            e o b i ∙ ap (λ y. y.0) (p.is (locator s o) ∙ sym (eval_pad R s.r p.coefs (locator s o)))
            ∙ sym (poly_nums f es (locator s o)) ∙ ap (poly f (nums f es)) (locator_is s o);
      }

  pub independent_of : (C : EvaluationCode (field_of s.field) (room s) s.k (degree s)) → degree s < room s
      → ((xs : List ℕ) → MessageIs s xs → (p : ℕ) → (symbol_at C (els s.field xs) p).0 ≡ symbol s xs p)
      → (xs : List ℕ) → is_message s xs ≡ true → ((x : ℕ) → x < q s.field → value s xs x ≡ 0) → all_below 1 xs ≡ true
  unfolding symbol
  independent_of C h symbols xs m z =
      let f = s.field in
      let M = message_is s xs m in
      yes_true (all_below 1 xs)
      (rw (nums_els f xs M.below) at (nums_of_zeros f (els f xs)
      (zero_message C (els f xs) (length-map xs (el f) ∙ M.length_is) h
      (λ p b. same_el f _ _ (symbols xs M p ∙ z (point s p) (point_below s p))))))
