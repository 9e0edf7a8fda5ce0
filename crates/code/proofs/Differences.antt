-- The difference of two messages, and its codeword. Assumes nothing.
--   apart s a b                  == the message a less the message b
--   apart_message                it is a message
--   apart_zero, apart_back       its symbol is 0 just where a and b have the same
--   apart_kept, apart_none       it is that of a just where that of b is 0
--   apart_same                   where it is all 0 the two are one
--   zero_word                    the message of a codeword that is all 0 is all 0
use mathlib.Core.Path.{◌≡◌, sym, ap, ◌∙◌}
use mathlib.Core.List.{List}
use Prim.Native.Nat.{ℕ, ◌<◌}
use native.Mathlib.Decide.{dec_lt}
use native.Mathlib.Omega.{arith}
use lib.Dec.{T}
use lib.ListN.{length, length-map}
use Rattle.algebra.specs.Ring.{Ring}
use Rattle.algebra.specs.Sequence.{at, all_below}
use Rattle.algebra.specs.Polynomial.{eval, diff}
use Rattle.algebra.specs.EvaluationCode.{EvaluationCode, symbol_at}
use Rattle.algebra.proofs.Ring.{add_cancel, sub_self, sub_nil, eq_of_sub}
use Rattle.algebra.proofs.At.{at_past}
use Rattle.algebra.proofs.Below.{all_below_at, all_below_intro}
use Rattle.algebra.proofs.Polynomial.{eval_diff, length_diff_same, eq_of_diff}
use Rattle.algebra.proofs.Zeros.{zero_message}
use Rattle.field.proofs.Elem.{Elem, same, ring_of, field_of}
use Rattle.field.proofs.Elements.{els, nums, els_nums, nums_els, nums_below, els_injective, zeros_of_nums, nums_of_zeros}
use Rattle.code.specs.declared.Shape.{Shape}
use Rattle.code.specs.Shape.{room}
use Rattle.code.specs.Basis.{degree}
use Rattle.code.specs.Codeword.{symbol}
use Rattle.code.specs.Laws.{Family}
use Rattle.code.proofs.Codewords.{MessageIs}
use Rattle.code.proofs.Distance.{evaluation_code, length_els, symbol_at_is, symbol_behind}

module _ (s : Shape) (F : Family s) where
  abbrev R : Ring
  R = ring_of s.field

  abbrev C : EvaluationCode (field_of s.field) (room s) s.k (degree s)
  C = evaluation_code s F

  module _ (a b : List ℕ) (A : MessageIs s a) (B : MessageIs s b) where
    abbrev pub apart : List ℕ
    apart = nums s.field (diff (ring_of s.field) (els s.field a) (els s.field b))

    pub apart_message : MessageIs s apart
    apart_message =
        let d = diff R (els s.field a) (els s.field b) in
        record {
          length_is =
              length-map d (λ x. x.0) ∙ length_diff_same R s.k (els s.field a) (els s.field b) (length_els s F a A) (length_els s F b B);
          below = nums_below s.field d;
        }

    module _ (p : ℕ) where
      abbrev x : Elem s.field
      x = symbol_at C (els s.field a) p

      abbrev y : Elem s.field
      y = symbol_at C (els s.field b) p

      -- the symbol over the field
      difference : symbol_at C (els s.field apart) p ≡ R.sub x y
      unfolding symbol_at
      difference =
          let f = s.field in
          ap (λ es. eval R (C.coefs es) (C.point p)) (els_nums f (diff R (els f a) (els f b)))
          ∙ ap (λ cs. eval R cs (C.point p)) (C.linear (els f a) (els f b) (length_els s F a A) (length_els s F b B))
          ∙ eval_diff R (C.coefs (els f a)) (C.coefs (els f b)) (C.point p)

      own : symbol s apart p ≡ (R.sub x y).0
      own = sym (symbol_at_is s F apart apart_message p) ∙ ap (λ (v : Elem s.field). v.0) difference

      pub apart_zero : symbol s a p ≡ symbol s b p → symbol s apart p ≡ 0
      apart_zero e =
          let same_one : x ≡ y = same s.field x y (symbol_at_is s F a A p ∙ e ∙ sym (symbol_at_is s F b B p)) in
          own ∙ ap (λ (v : Elem s.field). v.0) (ap (λ v. R.sub v y) same_one ∙ sub_self R y)

      pub apart_back : symbol s apart p ≡ 0 → symbol s a p ≡ symbol s b p
      apart_back e =
          sym (symbol_at_is s F a A p) ∙ ap (λ (v : Elem s.field). v.0) (eq_of_sub R x y (same s.field (R.sub x y) R.nil (sym own ∙ e)))
          ∙ symbol_at_is s F b B p

      pub apart_kept : symbol s b p ≡ 0 → symbol s apart p ≡ symbol s a p
      apart_kept e =
          let none : y ≡ R.nil = same s.field y R.nil (symbol_at_is s F b B p ∙ e) in
          own ∙ ap (λ (v : Elem s.field). v.0) (ap (R.sub x) none ∙ sub_nil R x) ∙ symbol_at_is s F a A p

      pub apart_none : symbol s apart p ≡ symbol s a p → symbol s b p ≡ 0
      apart_none e =
          let kept : R.sub x y ≡ x = same s.field (R.sub x y) x (sym own ∙ e ∙ sym (symbol_at_is s F a A p)) in
          let none : y ≡ R.nil
          = add_cancel R y R.nil x
          (R.add_comm y x ∙ ap (λ v. R.add v y) (sym kept) ∙ R.sub_add x y ∙ sym (R.add_comm R.nil x ∙ R.add_nil x)) in
          sym (symbol_at_is s F b B p) ∙ ap (λ (v : Elem s.field). v.0) none

    pub apart_same : ((i : ℕ) → at apart i ≡ 0) → a ≡ b
    apart_same z =
        let f = s.field in
        let d = diff R (els f a) (els f b) in
        els_injective f a b A.below B.below
        (eq_of_diff R (els f a) (els f b) (length_els s F a A ∙ sym (length_els s F b B))
        (zeros_of_nums f d (all_below_intro 1 apart (λ i h. omega (arith, z i)))))

  pub zero_word : (zs : List ℕ) → MessageIs s zs → ((p : ℕ) → p < s.n → symbol s zs p ≡ 0) → (i : ℕ) → at zs i ≡ 0
  zero_word zs Z none i = go (dec_lt i (length zs))
    where
      place : (p : ℕ) → p < room s → Dec (p < s.n) → symbol s zs p ≡ 0
      place p h (yes l) = none p l
      place p h (no l) = symbol_behind s F zs Z p (omega arith) h

      all : T (all_below 1 zs)
      all =
          let f = s.field in
          rw (← nums_els f zs Z.below)
          (nums_of_zeros f (els f zs)
          (zero_message C (els f zs) (length_els s F zs Z) (omega (arith, F.degree_most))
          (λ p h. same f (symbol_at C (els f zs) p) R.nil (symbol_at_is s F zs Z p ∙ place p h (dec_lt p s.n)))))

      go : Dec (i < length zs) → at zs i ≡ 0
      go (yes h) = let b : at zs i < 1 = all_below_at 1 zs all i h in omega arith
      go (no h) = at_past zs i (omega arith)
