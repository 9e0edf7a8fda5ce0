-- A polynomial divided by X - y, its entries from the last to the first. Assumes nothing.
--   Dividing f y i v a z     == the entries from i on are divided, and v is the value at y of the polynomial of them
--   dividing_none, dividing_more, dividing_done
--   divided_value            where y is a root the polynomial is X - y times the quotient
--   divided_root             another root is a root of the quotient
--   divided_few, divided_below    the quotient has a coefficient less, and is below q
use mathlib.Core.Path.{◌≡◌, refl, sym, ap, ap₂, ◌∙◌}
use mathlib.Core.Logic.{◌≢◌}
use mathlib.Core.List.{List, [], ◌∷◌}
use Prim.Native.Nat.{ℕ, suc, ◌+◌, ◌≤◌, ◌<◌}
use native.Mathlib.Decide.{ℕ_discrete, dec_lt}
use native.Mathlib.Omega.{arith}
use lib.Dec.{T, ltb}
use lib.ListN.{length, drop, set, length-set, drop_of_length-le}
use lib.Seq.{drop-cons, get_or-drop, get_or-set_same, get_or-set_other}
use Rattle.algebra.specs.Ring.{Ring}
use Rattle.algebra.specs.Sequence.{at, all_below}
use Rattle.algebra.specs.Polynomial.{eval}
use Rattle.algebra.proofs.Ring.{nil_add, mul_nil, eq_of_sub, no_divisors}
use Rattle.algebra.proofs.Booleans.{and_right}
use Rattle.algebra.proofs.At.{at_past}
use Rattle.algebra.proofs.Below.{all_below_intro}
use Rattle.algebra.proofs.Polynomial.{div}
use Rattle.algebra.proofs.Cofactors.{factor}
use Rattle.field.specs.Field.{q, plus, times}
use Rattle.field.specs.Polynomial.{poly}
use Rattle.field.proofs.Elem.{Elem, same, ring_of, field_of, el, el_is}
use Rattle.field.proofs.Elements.{els, poly_els, poly_below}
use Rattle.field.proofs.Values.{poly_zeros}
use Rattle.shortening.specs.Step.{Divided}

pub record Dividing (f y i v : ℕ) (a z : List ℕ) : Type 0 where
  pub size : length z ≡ length a
  pub value : v ≡ poly f (drop i a) y
  pub done : (p : ℕ) → i ≤ p → p < length a → at z p ≡ poly f (drop (suc p) a) y
  pub left : (p : ℕ) → p < i → at z p ≡ at a p

module _ (f y : ℕ) where
  pub dividing_none : (i : ℕ) (a : List ℕ) → length a ≤ i → Dividing f y i 0 a a
  unfolding poly
  dividing_none i a h =
      record {
        size = refl;
        value = sym (ap (λ xs. poly f xs y) (drop_of_length-le a {i = i} h));
        done = λ p b l. absurd (omega arith);
        left = λ p b. refl;
      }

  pub dividing_more : (i v w : ℕ) (a z : List ℕ) → i < length a → w ≡ plus f (at z i) (times f y v) → Dividing f y (suc i) v a z → Dividing f y i w a (set z i v)
  unfolding poly
  dividing_more i v w a z h e D =
      record {
        size = length-set z i v ∙ D.size;
        value =
            e ∙ ap₂ (λ c b. plus f c (times f y b)) (D.left i (omega arith)) D.value ∙ sym (ap (λ xs. poly f xs y) (drop-cons a i 0 h));
        done = λ p b l. go p b l (ℕ_discrete p i);
        left = λ p b. get_or-set_other z i p v 0 (λ k. omega arith) ∙ D.left p (omega arith);
      }
    where
      go : (p : ℕ) → i ≤ p → p < length a → Dec (p ≡ i) → at (set z i v) p ≡ poly f (drop (suc p) a) y
      go p b l (yes k) = rw k (get_or-set_same z i v 0 (omega (arith, D.size)) ∙ D.value)
      go p b l (no k) = get_or-set_other z i p v 0 k ∙ D.done p (omega arith) l

  pub dividing_done : (v : ℕ) (a z : List ℕ) → Dividing f y 0 v a z → Divided f y a z
  dividing_done v a z D = record { size = D.size; entry = λ p h. D.done p (omega arith) h }

-- over the field
module _ (f : ℕ) (y : Elem f) where
  abbrev R : Ring
  R = ring_of f

  el_poly : (d : ℕ) (cs : List ℕ) → T (all_below (q f) cs) → d ≡ poly f cs y.0 → el f d ≡ eval (ring_of f) (els f cs) y
  el_poly d cs t e = same f _ _ (el_is f d (rw e (poly_below f cs y.0)) ∙ e ∙ poly_els f cs t y)

  -- one entry more in front
  in_front : (x d v : Elem f) (cs : List ℕ) → d ≡ eval R (els f cs) y → v ≡ eval R (div R y (els f (drop 1 cs))) x
      → R.add d (R.mul x v) ≡ eval R (div R y (els f cs)) x
  unfolding eval div
  in_front x d v [] e k = ap₂ (λ d v. R.add d (R.mul x v)) e k ∙ nil_add R (R.mul x R.nil) ∙ mul_nil R x
  in_front x d v (c ∷ cs) e k = ap₂ (λ d v. R.add d (R.mul x v)) e k

  quotient_is : (x : Elem f) (a z : List ℕ) → T (all_below (q f) a) → Divided f y.0 a z
      → eval R (els f z) x ≡ eval R (div R y (els f (drop 1 a))) x
  unfolding eval div all_below
  quotient_is x [] [] t D = refl
  quotient_is x [] (d ∷ ds) t D = absurd (omega (arith, D.size))
  quotient_is x (c ∷ cs) [] t D = absurd (omega (arith, D.size))
  quotient_is x (c ∷ cs) (d ∷ ds) t D =
      let u = and_right (ltb c (q f)) (all_below (q f) cs) t in
      in_front x (el f d) (eval R (els f ds) x) cs (el_poly d cs u (D.entry 0 (omega arith)))
      (quotient_is x cs ds u (record { size = omega (arith, D.size); entry = λ p h. D.entry (suc p) (omega arith) }))

  module _ (a z : List ℕ) (t : T (all_below (q f) a)) (D : Divided f y.0 a z) where
    pub divided_value : eval (ring_of f) (els f a) y ≡ (ring_of f).nil → (x : Elem f)
        → eval (ring_of f) (els f a) x ≡ (ring_of f).mul ((ring_of f).sub x y) (eval (ring_of f) (els f z) x)
    unfolding eval div
    divided_value r x = go a r ∙ ap (R.mul (R.sub x y)) (sym (quotient_is x a z t D))
      where
        go : (a : List ℕ) → eval R (els f a) y ≡ R.nil → eval R (els f a) x ≡ R.mul (R.sub x y) (eval R (div R y (els f (drop 1 a))) x)
        go [] r = sym (mul_nil R (R.sub x y))
        go (c ∷ cs) r = factor (field_of f) (el f c) (els f cs) x y r

    pub divided_root : eval (ring_of f) (els f a) y ≡ (ring_of f).nil → (x : Elem f) → x ≢ y → eval (ring_of f) (els f a) x ≡ (ring_of f).nil
        → eval (ring_of f) (els f z) x ≡ (ring_of f).nil
    divided_root r x n e =
        no_divisors (field_of f) (R.sub x y) (eval R (els f z) x) (λ k. n (eq_of_sub R x y k)) (sym (divided_value r x) ∙ e)

    pub divided_few : (m : ℕ) → ((p : ℕ) → m < p → at a p ≡ 0) → (p : ℕ) → m ≤ p → at z p ≡ 0
    divided_few m n p h = go (dec_lt p (length a))
      where
        go : Dec (p < length a) → at z p ≡ 0
        go (yes l) = D.entry p l ∙ poly_zeros f (drop (suc p) a) y.0 y.1 (λ i. get_or-drop (suc p) a i 0 ∙ n (suc p + i) (omega arith))
        go (no l) = at_past z p (omega (arith, D.size))

    pub divided_below : T (all_below (q f) z)
    divided_below = all_below_intro (q f) z (λ p h. rw (D.entry p (omega (arith, D.size))) (poly_below f (drop (suc p) a) y.0))
