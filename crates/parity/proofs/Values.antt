-- Encoding polynomials with few coefficients. Assumes nothing.
--   based_few       at most r coefficients and zeros: a polynomial in x
--   Built s g       == a message whose encoding polynomial is the function g
--   whole_low       whole groups, k at most r: the message's symbols are the coefficients
--   whole_built     a polynomial with at most r and at most k coefficients is a message's
--   short_low       a short last group, at most r symbols with g: g times one polynomial, and h times another
--   short_built     such a sum is a message's
use mathlib.Core.Path.{◌≡◌, refl, sym, ap, ap₂, ◌∙◌}
use mathlib.Core.Bool.{true, false}
use mathlib.Core.List.{List, ◌++◌, map-append}
use Prim.Native.Nat.{ℕ, zero, suc, ◌+◌, ◌-◌, ◌≤◌}
use native.Mathlib.Omega.{arith}
use lib.Seq.{length-take-le, take-append_seam, drop-append_seam}
use lib.ListN.{length, length-map, length-append, take, drop, replicate, length-replicate}
use Rattle.algebra.specs.Ring.{Ring, pow}
use Rattle.algebra.specs.Polynomial.{eval}
use Rattle.algebra.proofs.Ring.{nil_mul}
use Rattle.algebra.proofs.Based.{based, based_append, based_first, based_later}
use Rattle.algebra.proofs.Coefficients.{front, front_value, length_front}
use Rattle.algebra.proofs.Blocks.{vanish}
use Rattle.field.proofs.Elem.{Elem, ring_of, el}
use Rattle.field.proofs.Elements.{els, nums, els_nums, nums_below}
use Rattle.code.specs.declared.Shape.{Shape}
use Rattle.code.specs.Shape.{size, whole}
use Rattle.code.specs.Basis.{lead}
use Rattle.code.specs.Codeword.{value}
use Rattle.code.specs.Laws.{Placed}
use Rattle.code.proofs.Codewords.{MessageIs}
use Rattle.code.proofs.ShortBasis.{goods, behind}
use Rattle.code.proofs.Expansion.{value_whole, value_parts}

module _ (R : Ring) (r : ℕ) (least : 1 ≤ r) (y x : R.El) where
  based_zeros : (m n : ℕ) → based R r least y x m (replicate n R.nil) ≡ R.nil
  unfolding based
  based_zeros m zero = refl
  based_zeros m (suc n) =
      ap₂ R.add (nil_mul R _) (based_zeros (suc m) n) ∙ R.add_nil R.nil

  -- at most r of them, and zeros
  pub based_few : (cs : List R.El) (n : ℕ) → length cs ≤ r → based R r least y x 0 (cs ++ replicate n R.nil) ≡ eval R cs x
  based_few cs n h =
      based_append R r least y x 0 cs (replicate n R.nil) ∙ ap₂ R.add (based_first R r least y x cs h) (based_zeros (0 + length cs) n) ∙ R.add_nil (eval R cs x)

pub record Built (s : Shape) (g : Elem s.field → Elem s.field) : Type 0 where
  pub message : List ℕ
  pub good : MessageIs s message
  pub is : (x : Elem s.field) → value s message x.0 ≡ (g x).0

-- elements as a message
module _ (s : Shape) (es : List (Elem s.field)) (long : length es ≡ s.k) where
  numbers : MessageIs s (nums s.field es)
  numbers = record { length_is = length-map es (λ x. x.0) ∙ long; below = nums_below s.field es }

module _ (s : Shape) (P : Placed s) where
  abbrev f : ℕ
  f = s.field

  abbrev R : Ring
  R = ring_of s.field

  -- m coefficients, and zeros up to n
  filled : (a : ℕ → Elem f) → (m n : ℕ) → List (Elem f)
  filled a m n = front R a m ++ replicate (n - m) R.nil

  length_filled : (a : ℕ → Elem f) (m n : ℕ) → m ≤ n → length (filled a m n) ≡ n
  unfolding filled
  length_filled a m n h =
      omega (arith, length-append (front R a m) (replicate (n - m) R.nil), length_front R a m, length-replicate (n - m) R.nil)

  filled_sum : (y x : Elem f) (a : ℕ → Elem f) (m n : ℕ) → m ≤ s.r → based R s.r P.r_least y x 0 (filled a m n) ≡ front_value R a m x
  unfolding filled
  filled_sum y x a m n h = based_few R s.r P.r_least y x (front R a m) (n - m) (omega (arith, length_front R a m))

  module _ (none : s.second ≡ 0) (w : whole s ≡ true) where
    pub whole_low : s.k ≤ s.r → (xs : List ℕ) → MessageIs s xs → (x : Elem s.field) → value s xs x.0 ≡ (eval (ring_of s.field) (els s.field xs) x).0
    whole_low h xs M x =
        value_whole s P none w xs M x
        ∙ ap (λ (v : Elem f). v.0)
        (based_first R s.r P.r_least (pow R x (size s)) x (els f xs) (omega (arith, length-map xs (el f), M.length_is)))

    pub whole_built : (a : ℕ → Elem s.field) (m : ℕ) → m ≤ s.r → m ≤ s.k → Built s (front_value (ring_of s.field) a m)
    whole_built a m h l =
        let es = filled a m s.k in
        let M = numbers s es (length_filled a m s.k l) in
        record {
          message = nums f es;
          good = M;
          is = λ x.
              value_whole s P none w (nums f es) M x
              ∙ ap (λ (v : Elem f). v.0)
              (ap (based R s.r P.r_least (pow R x (size s)) x 0) (els_nums f es) ∙ filled_sum (pow R x (size s)) x a m s.k h);
        }

  module _ (short : whole s ≡ false) (few : lead s ≤ s.k) where
    abbrev h : Elem f → Elem f
    h x = vanish R (behind s) x

    parts : (xs : List ℕ) → MessageIs s xs → (x : Elem f)
        → value s xs x.0
        ≡ (R.add (R.mul (goods s x) (based R s.r P.r_least (goods s x) x 0 (els f (take (lead s) xs)))) (R.mul (h x) (eval R (els f (drop (lead s) xs)) x))).0
    parts xs M x =
        value_parts s P short x xs M few
        ∙ ap (λ (v : Elem f). (R.add v (R.mul (h x) (eval R (els f (drop (lead s) xs)) x))).0)
        (based_later R s.r P.r_least (goods s x) x 0 (els f (take (lead s) xs)))

    pub short_low : lead s ≤ s.r → (xs : List ℕ) → MessageIs s xs → (x : Elem s.field)
        → value s xs x.0
        ≡ ((ring_of s.field).add ((ring_of s.field).mul (goods s x) (eval (ring_of s.field) (els s.field (take (lead s) xs)) x))
        ((ring_of s.field).mul (vanish (ring_of s.field) (behind s) x) (eval (ring_of s.field) (els s.field (drop (lead s) xs)) x))).0
    short_low l xs M x =
        parts xs M x
        ∙ ap (λ (v : Elem f). (R.add (R.mul (goods s x) v) (R.mul (h x) (eval R (els f (drop (lead s) xs)) x))).0)
        (based_first R s.r P.r_least (goods s x) x (els f (take (lead s) xs))
        (omega (arith, length-map (take (lead s) xs) (el f), length-take-le (lead s) xs (omega (arith, M.length_is)))))

    pub short_built : (a b : ℕ → Elem s.field) (m : ℕ) → m ≤ s.r → m ≤ lead s
        → Built s (λ x. (ring_of s.field).add ((ring_of s.field).mul (goods s x) (front_value (ring_of s.field) a m x))
        ((ring_of s.field).mul (vanish (ring_of s.field) (behind s) x) (front_value (ring_of s.field) b (s.k - lead s) x)))
    short_built a b m l g =
        let us = filled a m (lead s) in
        let bs = front R b (s.k - lead s) in
        let n : length us ≡ lead s = length_filled a m (lead s) g in
        let xs = nums f (us ++ bs) in
        let M = numbers s (us ++ bs) (omega (arith, length-append us bs, n, length_front R b (s.k - lead s))) in
        let both : xs ≡ nums f us ++ nums f bs = map-append (λ (v : Elem f). v.0) us bs in
        let d : length (nums f us) ≡ lead s = length-map us (λ x. x.0) ∙ n in
        let first : els f (take (lead s) xs) ≡ us = ap (els f) (ap₂ take (sym d) both ∙ take-append_seam (nums f us) (nums f bs)) ∙ els_nums f us in
        let last : els f (drop (lead s) xs) ≡ bs = ap (els f) (ap₂ drop (sym d) both ∙ drop-append_seam (nums f us) (nums f bs)) ∙ els_nums f bs in
        record {
          message = xs;
          good = M;
          is = λ x.
              parts xs M x
              ∙ ap₂ (λ (u v : Elem f). (R.add (R.mul (goods s x) u) (R.mul (h x) v)).0)
              (ap (based R s.r P.r_least (goods s x) x 0) first ∙ filled_sum (goods s x) x a m (lead s) l) (ap (λ es. eval R es x) last);
        }
