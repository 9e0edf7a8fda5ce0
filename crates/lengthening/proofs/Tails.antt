-- The coefficients of h times a polynomial, one root after another. Assumes nothing.
--   Tailed s bs i to z    == z has the `to` coefficients of the polynomial of bs times X - y over the missing points y from number i on
--   tailed_none, tailed_more, tailed_all    no root yet; one root more; all of them
use mathlib.Core.Path.{◌≡◌, refl, sym, ap, ap₂, ◌∙◌}
use mathlib.Core.Bool.{true}
use mathlib.Core.List.{List}
use Prim.Native.Nat.{ℕ, zero, suc, ◌+◌, ◌-◌, ◌≤◌, ◌<◌}
use native.Mathlib.Decide.{dec_lt}
use native.Mathlib.Omega.{arith}
use lib.ListN.{length, replicate, length-replicate}
use Rattle.algebra.specs.Sequence.{at, all_below}
use Rattle.algebra.specs.Writing.{Written, Laid}
use Rattle.algebra.proofs.At.{at_zeros, at_past}
use Rattle.algebra.proofs.Booleans.{so, yes_true}
use Rattle.algebra.proofs.Below.{all_below_intro, all_below_any}
use Rattle.algebra.proofs.Writing.{laid_at}
use Rattle.field.specs.Field.{q, plus, minus, times}
use Rattle.field.specs.Polynomial.{poly}
use Rattle.field.proofs.Laws.{laws}
use Rattle.field.proofs.Elem.{zero_below, times_zero, zero_plus, one_times}
use Rattle.field.proofs.Elements.{poly_below}
use Rattle.field.proofs.Values.{poly_ext, poly_times_linear}
use Rattle.code.specs.declared.Shape.{Shape}
use Rattle.code.specs.Shape.{missing, point}
use Rattle.code.specs.Basis.{vanish_from}
use Rattle.code.proofs.Points.{point_below}
use Rattle.code.proofs.Vanishing.{vanish_none, vanish_more, vanish_done, vanish_below}
use Rattle.lengthening.specs.Step.{lower, Tail}

pub record Tailed (s : Shape) (bs : List ℕ) (i to : ℕ) (z : List ℕ) : Type 0 where
  pub most : i ≤ missing s
  pub number : to + i ≡ length bs + missing s
  pub room : length z ≡ 16
  pub below : (p : ℕ) → at z p < q s.field
  pub few : (p : ℕ) → to ≤ p → at z p ≡ 0
  pub values : (x : ℕ) → x < q s.field
      → poly s.field z x ≡ times s.field (vanish_from s (missing s - i) (s.n + i) x) (poly s.field bs x)

module _ (s : Shape) (bs : List ℕ) where
  abbrev f : ℕ
  f = s.field

  -- the symbols laid down in 16 zeros
  pub tailed_none : (i : ℕ) (z : List ℕ) → i ≡ missing s → all_below (q s.field) bs ≡ true → length bs ≤ 16
      → Laid (λ m. at bs (0 + m)) 0 (length bs) (replicate 16 0) z → Tailed s bs i (length bs) z
  tailed_none i z e t h W =
      record {
        most = omega arith;
        number = omega arith;
        room = W.written.size ∙ length-replicate {A = ℕ} 16 0;
        below = λ p. rw (same p) (all_below_any (q f) bs (zero_below f) (so t) p);
        few = λ p l. same p ∙ at_past bs p l;
        values = λ x h.
            poly_ext f z bs x h same ∙ sym (one_times f (poly f bs x) (poly_below f bs x))
            ∙ ap (λ v. times f v (poly f bs x)) (vanish_none s x i e);
      }
    where
      same : (p : ℕ) → at z p ≡ at bs p
      same p = go (dec_lt p (length bs))
        where
          go : Dec (p < length bs) → at z p ≡ at bs p
          go (yes l) = let n : p ≡ 0 + p = omega arith in ap (at z) n ∙ laid_at W p l ∙ ap (at bs) (sym n)
          go (no l) = W.written.behind p (omega arith) ∙ at_zeros 16 p ∙ sym (at_past bs p (omega arith))

  -- one root y more
  module _ (i to y : ℕ) (a z : List ℕ) (A : Tailed s bs (suc i) to a) (e : y ≡ point s (s.n + i)) (h : to < 16)
      (W : Written (λ p. plus s.field (lower a p) (times s.field (minus s.field 0 y) (at a p))) 0 (suc to) a z) where
    y_below : y < q f
    y_below = rw e (point_below s (s.n + i))

    nothing : (v : ℕ) → v ≡ 0 → times f (minus f 0 y) v ≡ 0
    nothing v z = ap (times f (minus f 0 y)) z ∙ times_zero f (minus f 0 y) ((laws f).minus_below 0 y)

    first : at z 0 ≡ times f (minus f 0 y) (at a 0)
    unfolding lower
    first = W.put 0 (omega arith) (omega arith) ∙ zero_plus f (times f (minus f 0 y) (at a 0)) ((laws f).times_below (minus f 0 y) (at a 0))

    next : (m : ℕ) → at z (suc m) ≡ plus f (at a m) (times f (minus f 0 y) (at a (suc m)))
    unfolding lower
    next m = go (dec_lt m to)
      where
        go : Dec (m < to) → at z (suc m) ≡ plus f (at a m) (times f (minus f 0 y) (at a (suc m)))
        go (yes l) = W.put (suc m) (omega arith) (omega arith)
        go (no l) =
            W.behind (suc m) (omega arith) ∙ A.few (suc m) (omega arith)
            ∙ sym (ap₂ (plus f) (A.few m (omega arith)) (nothing (at a (suc m)) (A.few (suc m) (omega arith))) ∙ zero_plus f 0 (zero_below f))

    below : (p : ℕ) → at z p < q f
    below zero = rw first ((laws f).times_below _ _)
    below (suc m) = rw (next m) ((laws f).plus_below _ _)

    pub tailed_more : Tailed s bs i (suc to) z
    tailed_more =
        record {
          most = omega (arith, A.most);
          number = omega (arith, A.number);
          room = W.size ∙ A.room;
          below = below;
          few = λ p l. W.behind p l ∙ A.few p (omega arith);
          values = λ x hx.
              let v = vanish_from s (missing s - suc i) (s.n + suc i) x in
              let w = poly f bs x in
              let d = minus f x y in
              poly_times_linear f 16 y x y_below hx z a (W.size ∙ A.room) A.room below A.below first next
              ∙ ap (times f d) (A.values x hx)
              ∙ sym ((laws f).times_assoc d v w ((laws f).minus_below x y) (vanish_below s x (missing s - suc i) (s.n + suc i)) (poly_below f bs x))
              ∙ ap (λ u. times f u w) (vanish_more s x (suc i) i v (times f d v) refl A.most refl (ap (λ u. times f (minus f x u) v) e));
        }

  pub tailed_all : (i to : ℕ) (z : List ℕ) → i ≡ 0 → length bs + missing s ≡ s.r → Tailed s bs i to z → Tail s bs z
  tailed_all i to z e n A =
      record {
        room = A.room;
        below = yes_true (all_below (q f) z) (all_below_intro (q f) z (λ p h. A.below p));
        few = λ p h. A.few p (omega (arith, A.number));
        values = λ x h.
            A.values x h ∙ ap (λ v. times f v (poly f bs x)) (vanish_done s x i (vanish_from s (missing s - i) (s.n + i) x) e refl);
      }
