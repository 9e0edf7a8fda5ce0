-- What is promised of the parity checks holds. Assumes nothing.
--   Case, case-of      whole groups, a slot of a short last group, or one of another group beside it
--   promises           the promises of specs/Promise.antt
use mathlib.Core.Path.{◌≡◌, refl, sym, ap, ◌∙◌}
use mathlib.Core.Logic.{◌≢◌, ◌⊎◌, inl, inr}
use mathlib.Core.Bool.{Bool, true, false}
use mathlib.Core.List.{List, map}
use Prim.Native.Nat.{ℕ, suc, ◌-◌, ◌≤◌, ◌<◌}
use native.Mathlib.Decide.{ℕ_discrete, dec_lt}
use native.Mathlib.Omega.{arith}
use borrow.Author.Tests.{eq-eqb, ne_eqb}
use lib.Dec.{T, eqb, eqb→eq}
use lib.ListN.{length, length-map, take}
use lib.Seq.{take_all}
use Rattle.algebra.specs.Ring.{Ring, pow}
use Rattle.algebra.specs.Sequence.{at, all_below, every}
use Rattle.algebra.specs.Polynomial.{Poly}
use Rattle.algebra.proofs.Ring.{mul_nil, no_divisors}
use Rattle.algebra.proofs.Booleans.{so, yes_true}
use Rattle.algebra.proofs.At.{at_map}
use Rattle.algebra.proofs.Below.{all_below_intro}
use Rattle.algebra.proofs.Every.{every_at, every_intro, every_not, every_none}
use Rattle.algebra.proofs.Polynomial.{poly_zero, poly_more, poly_same, poly_add}
use Rattle.algebra.proofs.Blocks.{vanish, monic_power, monic_poly}
use Rattle.field.specs.Field.{q}
use Rattle.field.specs.Polynomial.{dotted}
use Rattle.field.proofs.Elem.{Elem, same as same_el, ring_of, field_of, one_not_zero}
use Rattle.code.specs.declared.Shape.{Shape}
use Rattle.code.specs.Shape.{groups, missing, whole, group, others, mates}
use Rattle.code.specs.Held.{held}
use Rattle.code.specs.Laws.{Decodable}
use Rattle.code.proofs.Points.{locator}
use Rattle.code.proofs.Mates.{mates_whole}
use Rattle.code.proofs.Searching.{both_ways}
use Rattle.code.proofs.Held.{has_at, held_found}
use Rattle.code.proofs.ShortBasis.{behind}
use Rattle.parity.specs.Parity.{checks, check_weights, passes}
use Rattle.parity.specs.Promise.{Symbols, ChecksTell, AnyMates, Untrue, NotAllMates, Promises}
use Rattle.parity.proofs.Counts.{checks_full, checks_few, checks_none}
use Rattle.parity.proofs.Defect.{defect}
use Rattle.parity.proofs.Checking.{terms, some_fails}
use Rattle.parity.proofs.Last.{kept_points, length_kept_points}
use Rattle.parity.proofs.Curves.{others_number, distinct, others_differ, others_apart, check, check_is, origin, whole_check, I, short_check}
use Rattle.parity.proofs.Telling.{M, size_suc, behind_few, some_behind, in_last, in_other, whole_all, short_all, last_all, Passing, whole_tells, short_tells, whole_passes, short_passes}

module _ (s : Shape) (D : Decodable s) (p : ℕ) (inside : p < s.n) where
  data Where : Type 0 where
    in_whole : whole s ≡ true → length (mates s p) ≡ s.r → Where
    beside : (short : whole s ≡ false) → group s p ≢ groups s - 1 → length (mates s p) ≡ s.r → Where
    in_short : (short : whole s ≡ false) → group s p ≡ groups s - 1 → length (mates s p) < s.r → Where

  where_is : Where
  where_is = go (whole s) refl (ℕ_discrete (group s p) (groups s - 1))
    where
      go : (b : Bool) → whole s ≡ b → Dec (group s p ≡ groups s - 1) → Where
      go true w d = in_whole w (omega (arith, mates_whole s D.plain.family.placed w p inside, size_suc s D p inside))
      go false w (yes d) = in_short w d (in_last s D p inside w d)
      go false w (no d) = beside w d (in_other s D p inside w d)

  module _ (ys : List ℕ) (Y : Symbols s p ys) where
    abbrev test : ℕ → Bool
    test l = eqb (dotted s.field (check_weights s p l) (take (length (mates s p)) ys)) 0

    nothing_checked : checks s p ≡ 0 → passes s p ys ≡ true
    unfolding passes
    nothing_checked e = ap (every test) e ∙ every_none test

    all_held : (s.r ≤ s.k) ⊎ (length (mates s p) < s.r) → held s (mates s p) ys ≡ true
    all_held c = go where_is c
      where
        go : Where → (s.r ≤ s.k) ⊎ (length (mates s p) < s.r) → held s (mates s p) ys ≡ true
        go (in_whole w e) (inl h) = whole_all s D p inside ys Y w h
        go (in_whole w e) (inr h) = absurd (omega arith)
        go (beside w d e) (inl h) = short_all s D p inside ys Y w d h
        go (beside w d e) (inr h) = absurd (omega arith)
        go (in_short w d e) c = last_all s D p inside ys Y w d

    module _ (full : length (mates s p) ≡ s.r) where
      passing : T (passes s p ys) → Passing s D p inside ys Y full
      unfolding passes
      passing t l h =
          eqb→eq (dotted s.field (check_weights s p l) (take (length (mates s p)) ys)) 0
          (every_at test (checks s p) t l (omega (arith, checks_full s p full)))

      passed : Passing s D p inside ys Y full → T (passes s p ys)
      unfolding passes
      passed z =
          every_intro test (checks s p)
          (λ l h. so (eq-eqb (dotted s.field (check_weights s p l) (take (length (mates s p)) ys)) 0 (z l (omega (arith, checks_full s p full)))))

      both : (Passing s D p inside ys Y full → held s (mates s p) ys ≡ true) → (held s (mates s p) ys ≡ true → Passing s D p inside ys Y full)
          → held s (mates s p) ys ≡ passes s p ys
      both tells made =
          both_ways (held s (mates s p) ys) (passes s p ys) (λ t. passed (made (yes_true (held s (mates s p) ys) t))) (λ t. so (tells (passing t)))

    told : held s (mates s p) ys ≡ passes s p ys
    told = go (dec_lt s.k s.r) where_is
      where
        go : Dec (s.k < s.r) → Where → held s (mates s p) ys ≡ passes s p ys
        go (yes k) (in_whole w e) =
            both e (whole_tells s D p inside ys Y e w)
            (λ t. let h = held_found s (mates s p) ys t in
            whole_passes s D p inside ys Y e h.message h.is (has_at s h.message (mates s p) ys h.it_has) k w)
        go (yes k) (beside w d e) =
            both e (short_tells s D p inside ys Y e w d)
            (λ t. let h = held_found s (mates s p) ys t in
            short_passes s D p inside ys Y e h.message h.is (has_at s h.message (mates s p) ys h.it_has) k w d)
        go (yes k) (in_short w d e) = all_held (inr e) ∙ sym (nothing_checked (checks_few s p e))
        go (no k) c = let h : s.r ≤ s.k = omega arith in all_held (inl h) ∙ sym (nothing_checked (checks_none s p h))

  -- a polynomial that fails check 0
  module _ (full : length (mates s p) ≡ s.r) (fewer : s.k < s.r) where
    abbrev f : ℕ
    f = s.field

    abbrev R : Ring
    R = ring_of s.field

    failing : (g : Elem f → Elem f) → Poly R s.r g → check s (M s D p inside) p inside 0 g ≢ R.nil → Untrue s p
    unfolding passes
    failing g c z =
        let ys : List ℕ = map (λ m. (g (locator s m)).0) (mates s p) in
        let n : length ys ≡ length (mates s p) = length-map (mates s p) (λ m. (g (locator s m)).0) in
        let below : (i : ℕ) → i < length (mates s p) → at ys i < q f = λ i h. rw (at_map (λ m. (g (locator s m)).0) (mates s p) i h) (g (locator s (at (mates s p) i))).1 in
        let Y : Symbols s p ys = (omega arith, below) in
        record {
          symbols = ys;
          long = n;
          below = yes_true (all_below (q f) ys) (all_below_intro (q f) ys (λ i h. below i (omega arith)));
          none = told ys Y ∙ fails ys n (λ e. z (same_el f _ _ (sym (check_is s (M s D p inside) p inside full 0 g c ys refl) ∙ e)));
        }
      where
        fails : (ys : List ℕ) → length ys ≡ length (mates s p) → dotted f (check_weights s p 0) ys ≢ 0 → passes s p ys ≡ false
        fails ys n z =
            every_not (λ l. eqb (dotted f (check_weights s p l) (take (length (mates s p)) ys)) 0) (checks s p) 0 (omega (arith, checks_full s p full))
            (ne_eqb (dotted f (check_weights s p 0) (take (length (mates s p)) ys)) 0
            (λ e. z (ap (dotted f (check_weights s p 0)) (sym (take_all (length (mates s p)) ys (omega arith))) ∙ e)))

    power_poly : (e n : ℕ) → e < n → Poly R n (λ y. pow R y e)
    power_poly e n h = poly_more R (suc e) n h (monic_poly R e (λ y. pow R y e) (monic_power R e))

    untrue : Untrue s p
    untrue = go where_is
      where
        go : Where → Untrue s p
        go (in_whole w e) =
            let N = M s D p inside in
            let g : Elem f → Elem f = λ y. pow R y (s.r - 1) in
            failing g (power_poly (s.r - 1) s.r (omega arith))
            (λ z. some_fails (field_of f) (locator s) (others s p) (locator s p) (distinct s N p inside) (others_differ s N p inside) (origin s N p inside)
            (others_apart s N p inside) (one_not_zero f) (s.r - 1) (omega (arith, others_number s N p inside))
            (sym (whole_check s N p inside w 0 g) ∙ z))
        go (beside w d e) =
            let N = M s D p inside in
            let t : ℕ = missing s - 1 in
            let P = D.plain.family.placed in
            let few = behind_few s D p inside in
            let some = some_behind s D p inside w in
            let g : Elem f → Elem f = λ y. R.add (pow R y t) (R.mul (vanish R (behind s) y) R.nil) in
            failing g
            (poly_add R s.r (power_poly t s.r (omega arith)) (poly_same R s.r (λ y. mul_nil R (vanish R (behind s) y)) (poly_more R 0 s.r (omega arith) (poly_zero R))))
            (λ z. some_fails (field_of f) (locator s) (others s p) (locator s p) (distinct s N p inside) (others_differ s N p inside) (kept_points s P w)
            (others_apart s N p inside) (one_not_zero f) t (omega (arith, others_number s N p inside, length_kept_points s P w, size_suc s D p inside))
            (no_divisors (field_of f) (I s N p inside w d).κ
            (defect (field_of f) (locator s) (others s p) (locator s p)
            (λ y. R.mul (terms (field_of f) (locator s) (others s p) (locator s p) (distinct s N p inside) (others_differ s N p inside) (kept_points s P w) 0 y) (pow R y t)))
            (I s N p inside w d).κ_not_zero
            (sym (short_check s N p inside w d 0 0 (λ y. pow R y t) (λ y. R.nil) (poly_zero R) (omega arith)) ∙ z)))
        go (in_short w d e) = absurd (omega arith)

pub checks_tell : ChecksTell
unfolding ChecksTell
checks_tell s p ys D inside Y = told s D p inside ys Y

pub any_mates : AnyMates
unfolding AnyMates
any_mates s p ys D inside c Y = (none c, all_held s D p inside ys Y c)
  where
    none : (s.r ≤ s.k) ⊎ (length (mates s p) < s.r) → checks s p ≡ 0
    none (inl h) = checks_none s p h
    none (inr h) = checks_few s p h

pub not_all_mates : NotAllMates
unfolding NotAllMates
not_all_mates s p D inside fewer full = untrue s D p inside full fewer

pub promises : Promises
promises = record { checks_tell = checks_tell; any_mates = any_mates; not_all_mates = not_all_mates }
