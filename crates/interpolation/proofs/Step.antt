-- One place more in Newton's interpolation: lost, or taken. Assumes nothing.
--   place_skipped  a lost place changes nothing
--   place_taken    a place is taken
--   rooms_kept     the rows keep their lengths
use mathlib.Core.Path.{◌≡◌, sym, ap, ap₂, ◌∙◌}
use mathlib.Core.Logic.{◌≢◌}
use mathlib.Core.List.{List}
use Prim.Native.Nat.{ℕ, ◌+◌, ◌≤◌, ◌<◌}
use native.Mathlib.Decide.{ℕ_discrete, dec_lt}
use native.Mathlib.Omega.{arith}
use lib.ListN.{length}
use Rattle.algebra.specs.Sequence.{at}
use Rattle.algebra.specs.Writing.{Written}
use Rattle.algebra.proofs.Counting.{count_yes, count_no}
use Rattle.algebra.proofs.Newton.{rest_kept, quotient, factor_not_nil}
use Rattle.field.specs.Field.{q, plus, minus, times, inverse}
use Rattle.field.specs.Polynomial.{poly}
use Rattle.field.proofs.Laws.{laws}
use Rattle.field.proofs.Elem.{Elem, same, ring_of, inv, field_of, plus_times_zero}
use Rattle.field.proofs.Elements.{poly_below}
use Rattle.field.proofs.Values.{poly_add_scaled}
use Rattle.interpolation.specs.Step.{Multiplied, kept, Nodes, Rooms, Newton}
use Rattle.interpolation.proofs.Marks.{kept_no, kept_yes, kept_before}
use Rattle.interpolation.proofs.Factor.{sum_zero, factor_below, factor_few, factor_value, factor_here, factor_there}

module _ (f n : ℕ) (xs ws ms : List ℕ) (i c : ℕ) where
  pub place_skipped : (cs ns vs rs : List ℕ) → at ms i ≡ 1 → Newton f n xs ws ms i c cs ns vs rs → Newton f n xs ws ms (i + 1) c cs ns vs rs
  place_skipped cs ns vs rs lost N =
      record {
        taken = N.taken ∙ count_no (kept ms) i (kept_no ms i lost);
        cs_below = N.cs_below;
        cs_few = N.cs_few;
        cs_passes = λ p h k. N.cs_passes p (kept_before ms i p lost h k) k;
        ns_below = N.ns_below;
        ns_few = N.ns_few;
        ns_roots = λ p h k. N.ns_roots p (kept_before ms i p lost h k) k;
        vs_values = λ p h l. N.vs_values p (omega arith) l;
        vs_not_zero = λ p h l. N.vs_not_zero p (omega arith) l;
        rs_below = λ p h l. N.rs_below p (omega arith) l;
        rs_left = λ p h l. N.rs_left p (omega arith) l;
      }

  -- k is the factor, and places from s up to e, coefficients below w are worked on
  module _ (cs ns vs rs cs' ns' vs' rs' : List ℕ) (k v h w s e : ℕ) (P : Nodes f n xs) (S : Rooms cs ns vs rs)
      (inside : i < n) (here : at ms i ≢ 1) (wide : c + 1 < w) (start : s ≤ i) (end : n < e)
      (v_is : v ≡ inverse f (at vs i)) (k_is : k ≡ times f (at rs i) v) (h_is : h ≡ minus f 0 k)
      (A : Written (λ p. plus f (at cs p) (times f k (at ns p))) 0 w cs cs')
      (B : Written (λ p. plus f (at rs p) (times f h (at vs p))) s e rs rs')
      (C : Written (λ p. times f (minus f (at xs p) (at xs i)) (at vs p)) s e vs vs')
      (D : Multiplied f (minus f 0 (at xs i)) w ns ns')
      (N : Newton f n xs ws ms i c cs ns vs rs) where
    y_below : at xs i < q f
    y_below = P.below i inside

    k_below : k < q f
    k_below = rw k_is ((laws f).times_below (at rs i) v)

    vs_below : (p : ℕ) → i ≤ p → p < n → at vs p < q f
    vs_below p b l = rw (N.vs_values p b l) (poly_below f ns (at xs p))

    -- the coefficients, all of them
    cs_at : (m : ℕ) → at cs' m ≡ plus f (at cs m) (times f k (at ns m))
    cs_at m = go (dec_lt m w)
      where
        go : Dec (m < w) → at cs' m ≡ plus f (at cs m) (times f k (at ns m))
        go (yes b) = A.put m (omega arith) b
        go (no b) =
            A.behind m (omega arith)
            ∙ sym (ap (λ x. plus f (at cs m) (times f k x)) (N.ns_few m (omega arith)) ∙ plus_times_zero f (at cs m) k (N.cs_below m) k_below)

    -- the values
    cs_value : (x : ℕ) → x < q f → poly f cs' x ≡ plus f (poly f cs x) (times f k (poly f ns x))
    cs_value x hx =
        poly_add_scaled f 256 k x k_below hx cs' cs ns (A.size ∙ S.cs_size) S.cs_size S.ns_size N.cs_below N.ns_below cs_at

    ns_value : (x : ℕ) → x < q f → poly f ns' x ≡ times f (minus f x (at xs i)) (poly f ns x)
    ns_value = factor_value f c (at xs i) w ns ns' wide y_below S.ns_size N.ns_below N.ns_few D

    -- at place i
    vs_i : at vs i ≡ poly f ns (at xs i)
    vs_i = N.vs_values i (omega arith) inside

    factor : times f k (at vs i) ≡ at rs i
    unfolding inv
    factor =
        ap (λ z. times f z (at vs i)) (k_is ∙ ap (times f (at rs i)) v_is)
        ∙ ap (λ z. z.0) (quotient (field_of f) (at rs i, N.rs_below i (omega arith) inside) (at vs i, vs_below i (omega arith) inside)
        (λ z. N.vs_not_zero i (omega arith) inside (ap (λ z. z.0) z)))

    here_passes : poly f cs' (at xs i) ≡ at ws i
    here_passes =
        cs_value (at xs i) y_below ∙ ap (λ z. plus f (poly f cs (at xs i)) (times f k z)) (sym vs_i)
        ∙ ap (plus f (poly f cs (at xs i))) factor ∙ (laws f).plus_comm (poly f cs (at xs i)) (at rs i) ∙ N.rs_left i (omega arith) inside

    -- at a place taken before
    passes : (p : ℕ) → p < i + 1 → at ms p ≢ 1 → poly f cs' (at xs p) ≡ at ws p
    passes p b l = go (ℕ_discrete p i)
      where
        go : Dec (p ≡ i) → poly f cs' (at xs p) ≡ at ws p
        go (yes z) = rw z here_passes
        go (no z) =
            cs_value (at xs p) (P.below p (omega arith)) ∙ ap (λ u. plus f (poly f cs (at xs p)) (times f k u)) (N.ns_roots p (omega arith) l)
            ∙ plus_times_zero f (poly f cs (at xs p)) k (poly_below f cs (at xs p)) k_below ∙ N.cs_passes p (omega arith) l

    roots : (p : ℕ) → p < i + 1 → at ms p ≢ 1 → poly f ns' (at xs p) ≡ 0
    roots p b l = go (ℕ_discrete p i)
      where
        go : Dec (p ≡ i) → poly f ns' (at xs p) ≡ 0
        go (yes z) = rw z (factor_here f c (at xs i) w ns ns' wide y_below S.ns_size N.ns_below N.ns_few D)
        go (no z) =
            factor_there f c (at xs i) w ns ns' wide y_below S.ns_size N.ns_below N.ns_few D (at xs p) (P.below p (omega arith)) (N.ns_roots p (omega arith) l)

    -- at a place behind
    module _ (p : ℕ) (b : i + 1 ≤ p) (l : p < n) where
      vs_at : at vs' p ≡ times f (minus f (at xs p) (at xs i)) (at vs p)
      vs_at = C.put p (omega arith) (omega arith)

      rs_at : at rs' p ≡ plus f (at rs p) (times f (minus f 0 k) (at vs p))
      rs_at = B.put p (omega arith) (omega arith) ∙ ap (λ z. plus f (at rs p) (times f z (at vs p))) h_is

      value_there : at vs' p ≡ poly f ns' (at xs p)
      value_there =
          vs_at ∙ ap (times f (minus f (at xs p) (at xs i))) (N.vs_values p (omega arith) l) ∙ sym (ns_value (at xs p) (P.below p l))

      not_zero_there : at vs' p ≢ 0
      not_zero_there z =
          factor_not_nil (field_of f) (at xs p, P.below p l) (at xs i, y_below) (at vs p, vs_below p (omega arith) l) apart
          (λ u. N.vs_not_zero p (omega arith) l (ap (λ z. z.0) u)) (same f _ _ (sym vs_at ∙ z))
        where
          apart : ◌≢◌ {A = Elem f} (at xs p, P.below p l) (at xs i, y_below)
          apart u = let o : p ≡ i = P.differ p i l inside (ap (λ z. z.0) u) in absurd (omega arith)

      below_there : at rs' p < q f
      below_there = rw rs_at ((laws f).plus_below (at rs p) (times f (minus f 0 k) (at vs p)))

      left_there : plus f (at rs' p) (poly f cs' (at xs p)) ≡ at ws p
      left_there =
          ap₂ (plus f) rs_at (cs_value (at xs p) (P.below p l) ∙ ap (λ z. plus f (poly f cs (at xs p)) (times f k z)) (sym (N.vs_values p (omega arith) l)))
          ∙ ap (λ z. z.0) (rest_kept (ring_of f) (at rs p, N.rs_below p (omega arith) l) (k, k_below) (at vs p, vs_below p (omega arith) l)
          (poly f cs (at xs p), poly_below f cs (at xs p)))
          ∙ N.rs_left p (omega arith) l

    pub place_taken : Newton f n xs ws ms (i + 1) (c + 1) cs' ns' vs' rs'
    place_taken =
        record {
          taken = ap (λ z. z + 1) N.taken ∙ count_yes (kept ms) i (kept_yes ms i here);
          cs_below = λ m. rw (cs_at m) ((laws f).plus_below (at cs m) (times f k (at ns m)));
          cs_few = λ m b. cs_at m ∙ sum_zero f k (at cs m) (at ns m) k_below (N.cs_few m (omega arith)) (N.ns_few m (omega arith));
          cs_passes = passes;
          ns_below = factor_below f c (at xs i) w ns ns' wide y_below S.ns_size N.ns_below N.ns_few D;
          ns_few = factor_few f c (at xs i) w ns ns' wide y_below S.ns_size N.ns_below N.ns_few D;
          ns_roots = roots;
          vs_values = value_there;
          vs_not_zero = not_zero_there;
          rs_below = below_there;
          rs_left = left_there;
        }

pub rooms_kept : (cs ns vs rs cs' ns' vs' rs' : List ℕ) → Rooms cs ns vs rs → length cs' ≡ length cs → length ns' ≡ length ns → length vs' ≡ length vs
    → length rs' ≡ length rs → Rooms cs' ns' vs' rs'
rooms_kept cs ns vs rs cs' ns' vs' rs' S a b c d =
    record { cs_size = a ∙ S.cs_size; ns_size = b ∙ S.ns_size; vs_size = c ∙ S.vs_size; rs_size = d ∙ S.rs_size }
