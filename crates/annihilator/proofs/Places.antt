-- The product over the kept places, of X less the place's point. Assumes nothing.
--   counted                                         the entries that pass a test, counted by their places
--   vanishes_none, vanishes_lost, vanishes_more     no place yet; one place more, that is lost or kept
--   Product, product_of                             there is such a product
--   leads, root                                     it has the leading coefficient 1, and the kept points are its roots
use mathlib.Core.Path.{◌≡◌, refl, sym, ap, ◌∙◌}
use mathlib.Core.Logic.{◌≢◌}
use mathlib.Core.Bool.{Bool, cond}
use mathlib.Core.List.{List, [], ◌∷◌}
use Prim.Native.Nat.{ℕ, zero, suc, ◌+◌, ◌≤◌, ◌<◌}
use native.Mathlib.Numerals.{add-one}
use native.Mathlib.Decide.{ℕ_discrete}
use native.Mathlib.Omega.{arith}
use lib.ListN.{length, replicate, set, length-set, length-replicate}
use lib.Seq.{get_or-set_same, get_or-set_other}
use Rattle.std.specs.List.{count_by}
use Rattle.std.proofs.lemmas.List.Sums.{sum_by-cons}
use Rattle.algebra.specs.Sequence.{at, tabulate, count}
use Rattle.algebra.proofs.At.{at_past, at_zeros}
use Rattle.algebra.proofs.Tabulate.{length_tabulate, at_tabulate}
use Rattle.algebra.proofs.Counting.{count_zero, count_yes, count_no, count_most}
use Rattle.algebra.proofs.Coefficients.{front_value, value_short}
use Rattle.algebra.proofs.Multiples.{Leads}
use Rattle.field.specs.Field.{q, plus, minus, times}
use Rattle.field.specs.Polynomial.{poly}
use Rattle.field.proofs.Laws.{laws}
use Rattle.field.proofs.Elem.{same, ring_of, el, el_is, el_zero}
use Rattle.field.proofs.Elements.{el_at, poly_value}
use Rattle.interpolation.specs.Step.{Multiplied, kept}
use Rattle.interpolation.proofs.Marks.{kept_no, kept_yes, kept_before}
use Rattle.interpolation.proofs.Factor.{factor_below, factor_few, factor_top, factor_here, factor_there}
use Rattle.interpolation.proofs.Settling.{first_below}
use Rattle.annihilator.specs.Step.{Vanishes}

count_front : (u : ℕ → Bool) (n : ℕ) → count u (suc n) ≡ cond (u 0) 1 0 + count (λ i. u (suc i)) n
unfolding count
count_front u zero = refl
count_front u (suc n) = omega (arith, count_front u n)

pub counted : (t : ℕ → Bool) (xs : List ℕ) → count_by t xs ≡ count (λ i. t (at xs i)) (length xs)
counted t [] = sym (count_zero (λ i. t (at [] i)))
counted t (x ∷ xs) =
    let front : count (λ i. t (at (x ∷ xs) i)) (suc (length xs)) ≡ cond (t x) 1 0 + count (λ i. t (at xs i)) (length xs) = count_front (λ i. t (at (x ∷ xs) i)) (length xs) in
    sum_by-cons (λ y. cond (t y) 1 0) x xs ∙ ap (λ m. cond (t x) 1 0 + m) (counted t xs) ∙ sym front

module _ (f : ℕ) (xs ms : List ℕ) where
  pub vanishes_none : (zs : List ℕ) → length zs ≡ 256 → ((m : ℕ) → at zs m ≡ 0) → Vanishes f xs ms 0 0 (set zs 0 1)
  vanishes_none zs l z =
      record {
        taken = sym (count_zero (kept ms));
        size = length-set zs 0 1 ∙ l;
        below = first_below f (set zs 0 1) first others;
        few = others;
        top = first;
        roots = λ p h. absurd (omega arith);
      }
    where
      first : at (set zs 0 1) 0 ≡ 1
      first = get_or-set_same zs 0 1 0 (omega arith)

      others : (m : ℕ) → 0 < m → at (set zs 0 1) m ≡ 0
      others m h = get_or-set_other zs 0 m 1 0 (λ e. omega arith) ∙ z m

  module _ (i c : ℕ) (zs : List ℕ) (Z : Vanishes f xs ms i c zs) where
    pub vanishes_lost : at ms i ≡ 1 → Vanishes f xs ms (i + 1) c zs
    vanishes_lost lost =
        record {
          taken = Z.taken ∙ count_no (kept ms) i (kept_no ms i lost);
          size = Z.size;
          below = Z.below;
          few = Z.few;
          top = Z.top;
          roots = λ p h k. Z.roots p (kept_before ms i p lost h k) k;
        }

    -- w coefficients are worked on
    pub vanishes_more : (n w : ℕ) (zs' : List ℕ) → i < n → c + 1 < w → at ms i ≢ 1 → ((p : ℕ) → p < n → at xs p < q f)
        → Multiplied f (minus f 0 (at xs i)) w zs zs' → Vanishes f xs ms (i + 1) (c + 1) zs'
    vanishes_more n w zs' inside wide here small D =
        record {
          taken = ap (λ m. m + 1) Z.taken ∙ count_yes (kept ms) i (kept_yes ms i here);
          size = D.size ∙ Z.size;
          below = factor_below f c (at xs i) w zs zs' wide (small i inside) Z.size Z.below Z.few D;
          few = factor_few f c (at xs i) w zs zs' wide (small i inside) Z.size Z.below Z.few D;
          top = factor_top f c (at xs i) w zs zs' wide (small i inside) Z.size Z.below Z.few D ∙ Z.top;
          roots = λ p h k. root_at p h k (ℕ_discrete p i);
        }
      where
        root_at : (p : ℕ) → p < i + 1 → at ms p ≢ 1 → Dec (p ≡ i) → poly f zs' (at xs p) ≡ 0
        root_at p h k (yes e) = rw e (factor_here f c (at xs i) w zs zs' wide (small i inside) Z.size Z.below Z.few D)
        root_at p h k (no e) =
            factor_there f c (at xs i) w zs zs' wide (small i inside) Z.size Z.below Z.few D (at xs p) (small p (omega arith)) (Z.roots p (omega arith) k)

-- X plus k, times a row's polynomial
grown : (f k : ℕ) (a : List ℕ) → ℕ → ℕ
grown f k a zero = plus f 0 (times f k (at a 0))
grown f k a (suc p) = plus f (at a p) (times f k (at a (suc p)))

grown_row : (f k : ℕ) (a : List ℕ) → length a ≡ 256 → Multiplied f k 256 a (tabulate (grown f k a) 256)
unfolding grown
grown_row f k a l =
    let s : length (tabulate (grown f k a) 256) ≡ 256 = length_tabulate (grown f k a) 256 in
    record {
      size = s ∙ sym l;
      first = λ h. at_tabulate (grown f k a) 0 256 0 h;
      next = λ p h. at_tabulate (grown f k a) 0 256 (suc p) h;
      behind = λ p h. at_past (tabulate (grown f k a) 256) p (omega arith) ∙ sym (at_past a p (omega arith));
    }

pub record Product (f : ℕ) (xs ms : List ℕ) (i : ℕ) : Type 0 where
  pub c : ℕ
  pub zs : List ℕ
  pub vanishes : Vanishes f xs ms i c zs

pub product_of : (f n : ℕ) (xs ms : List ℕ) → n ≤ 255 → ((p : ℕ) → p < n → at xs p < q f) → (i : ℕ) → i ≤ n → Product f xs ms i
product_of f n xs ms small below zero h =
    record { c = 0; zs = set (replicate 256 0) 0 1; vanishes = vanishes_none f xs ms (replicate 256 0) (length-replicate {A = ℕ} 256 0) (at_zeros 256) }
product_of f n xs ms small below (suc i) h = rw (← add-one i) (go (ℕ_discrete (at ms i) 1) (product_of f n xs ms small below i (omega arith)))
  where
    go : Dec (at ms i ≡ 1) → Product f xs ms i → Product f xs ms (i + 1)
    go (yes e) P = record { c = P.c; zs = P.zs; vanishes = vanishes_lost f xs ms i P.c P.zs P.vanishes e }
    go (no e) P =
        let k = minus f 0 (at xs i) in
        let Z = P.vanishes in
        record {
          c = P.c + 1;
          zs = tabulate (grown f k P.zs) 256;
          vanishes =
              vanishes_more f xs ms i P.c P.zs Z n 256 (tabulate (grown f k P.zs) 256) (omega arith)
              (omega (arith, Z.taken, count_most (kept ms) i)) e below (grown_row f k P.zs Z.size);
        }

-- as coefficients over the field
module _ (f : ℕ) (xs ms : List ℕ) (i c : ℕ) (zs : List ℕ) (Z : Vanishes f xs ms i c zs) where
  pub leads : Leads (ring_of f) (el_at f zs) c
  leads =
      record {
        top = ap (el f) Z.top ∙ same f _ _ (el_is f 1 (omega (arith, (laws f).two_below)));
        above = λ m h. ap (el f) (Z.few m h) ∙ el_zero f;
      }

  pub root : c ≤ 255 → (p : ℕ) → p < i → at ms p ≢ 1 → (h : at xs p < q f) → front_value (ring_of f) (el_at f zs) (suc c) (at xs p, h) ≡ (ring_of f).nil
  root small p l k h =
      same f _ _
      (sym (poly_value f zs 256 (at xs p) h (omega (arith, Z.size)) Z.below
      ∙ ap (λ x. x.0) (value_short (ring_of f) (el_at f zs) (suc c) 256 (at xs p, h) (omega arith) (λ m b _. leads.above m b)))
      ∙ Z.roots p l k)
