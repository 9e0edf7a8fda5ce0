-- The start and the end of the steps of Newton's interpolation. Assumes nothing.
--   unit_row, unit_values       the polynomial 1, and its values
--   first_below                 a row with 1 in front and 0 behind is of elements
--   count_step      how many places are taken, one place more
--   started         no place is taken yet
--   begun           the same, of the rows at the start
--   settled         most places are taken
use mathlib.Core.Path.{◌≡◌, refl, sym, ap, ◌∙◌}
use mathlib.Core.Bool.{Bool, true, false}
use mathlib.Core.List.{List}
use Prim.Native.Nat.{ℕ, zero, suc, ◌+◌, ◌≤◌, ◌<◌}
use native.Mathlib.Omega.{arith}
use lib.ListN.{length, replicate, set, length-set, length-replicate}
use lib.Seq.{get_or-set_same, get_or-set_other}
use Rattle.algebra.specs.Sequence.{at, count}
use Rattle.algebra.specs.Polynomial.{eval}
use Rattle.algebra.proofs.At.{at_replicate, at_zeros}
use Rattle.algebra.proofs.Counting.{count_zero, count_yes, count_no}
use Rattle.algebra.proofs.Coefficients.{front, value_zeros, value_short}
use Rattle.field.specs.Field.{q, plus}
use Rattle.field.specs.Polynomial.{poly}
use Rattle.field.proofs.Laws.{laws}
use Rattle.field.proofs.Elem.{ring_of, el, el_is, zero_below, el_zero, plus_times_zero}
use Rattle.field.proofs.Elements.{el_at, poly_value}
use Rattle.interpolation.specs.Step.{kept, Nodes, Rooms, Newton, Settled}

-- the rows at the start: zeros, the polynomial 1, and its values
abbrev zeros : List ℕ
zeros = replicate 256 0

abbrev pub unit_row : List ℕ
unit_row = set zeros 0 1

abbrev pub unit_values : List ℕ
unit_values = replicate 256 1

pub count_step : (t : ℕ → Bool) (i : ℕ) → count t (i + 1) ≤ count t i + 1
count_step t i = go (t i) refl
  where
    go : (b : Bool) → t i ≡ b → count t (i + 1) ≤ count t i + 1
    go true e = omega (arith, count_yes t i e)
    go false e = omega (arith, count_no t i e)

module _ (f : ℕ) where
  zero_value : (cs : List ℕ) (x : ℕ) → x < q f → length cs ≡ 256 → ((m : ℕ) → at cs m ≡ 0) → poly f cs x ≡ 0
  zero_value cs x h l z =
      poly_value f cs 256 x h (omega arith) (λ m. rw (z m) (zero_below f))
      ∙ ap (λ y. y.0) (value_zeros (ring_of f) (el_at f cs) 256 (x, h) (λ m b. ap (el f) (z m) ∙ el_zero f))

  one_below : 1 < q f
  one_below = omega (arith, (laws f).two_below)

  pub first_below : (ns : List ℕ) → at ns 0 ≡ 1 → ((m : ℕ) → 0 < m → at ns m ≡ 0) → (m : ℕ) → at ns m < q f
  first_below ns o z zero = rw o one_below
  first_below ns o z (suc m) = rw (z (suc m) (omega arith)) (zero_below f)

  one_value : (ns : List ℕ) (x : ℕ) → x < q f → length ns ≡ 256 → at ns 0 ≡ 1 → ((m : ℕ) → 0 < m → at ns m ≡ 0) → poly f ns x ≡ 1
  unfolding front eval
  one_value ns x h l o z =
      poly_value f ns 256 x h (omega arith) (first_below ns o z)
      ∙ ap (λ y. y.0) (value_short (ring_of f) (el_at f ns) 1 256 (x, h) (omega arith) (λ m b k. ap (el f) (z m (omega arith)) ∙ el_zero f))
      ∙ plus_times_zero f (el_at f ns 0).0 x (el_at f ns 0).1 h ∙ el_is f (at ns 0) (first_below ns o z 0) ∙ o

  started : (n : ℕ) (xs ws ms cs ns vs : List ℕ) → Nodes f n xs → ((p : ℕ) → p < n → at ws p < q f) → Rooms cs ns vs ws → ((m : ℕ) → at cs m ≡ 0)
      → at ns 0 ≡ 1 → ((m : ℕ) → 0 < m → at ns m ≡ 0) → ((p : ℕ) → p < n → at vs p ≡ 1) → Newton f n xs ws ms 0 0 cs ns vs ws
  started n xs ws ms cs ns vs P b S z o zs vo =
      record {
        taken = sym (count_zero (kept ms));
        cs_below = λ m. rw (z m) (zero_below f);
        cs_few = λ m h. z m;
        cs_passes = λ p h. absurd (omega arith);
        ns_below = first_below ns o zs;
        ns_few = zs;
        ns_roots = λ p h. absurd (omega arith);
        vs_values = λ p h l. vo p l ∙ sym (one_value ns (at xs p) (P.below p l) S.ns_size o zs);
        vs_not_zero = λ p h l e. let d = vo p l in absurd (omega arith);
        rs_below = λ p h l. b p l;
        rs_left = λ p h l. ap (plus f (at ws p)) (zero_value cs (at xs p) (P.below p l) S.cs_size z) ∙ (laws f).plus_zero (at ws p) (b p l);
      }

  pub begun : (n : ℕ) (xs ws ms cs : List ℕ) → n ≤ 255 → Nodes f n xs → ((p : ℕ) → p < n → at ws p < q f) → length cs ≡ 256 → ((m : ℕ) → at cs m ≡ 0) → length ws ≡ 256
      → Rooms cs unit_row unit_values ws × Newton f n xs ws ms 0 0 cs unit_row unit_values ws
  begun n xs ws ms cs h P b lc z lw =
      let l : length zeros ≡ 256 = length-replicate {A = ℕ} 256 0 in
      let S : Rooms cs unit_row unit_values ws = record { cs_size = lc; ns_size = length-set zeros 0 1 ∙ l; vs_size = length-replicate {A = ℕ} 256 1; rs_size = lw } in (
        S,
        started n xs ws ms cs unit_row unit_values P b S z (get_or-set_same zeros 0 1 0 (omega arith))
            (λ m k. get_or-set_other zeros 0 m 1 0 (λ e. omega arith) ∙ at_zeros 256 m) (λ p k. at_replicate 256 1 p (omega arith)),
      )

  pub settled : (n most i c : ℕ) (xs ws ms cs ns vs rs : List ℕ) → i ≤ n → c ≡ most → Rooms cs ns vs rs → Newton f n xs ws ms i c cs ns vs rs
      → Settled f n most xs ws ms i cs rs
  settled n most i c xs ws ms cs ns vs rs h e S N =
      record {
        taken = sym N.taken ∙ e;
        size = S.cs_size;
        inside = h;
        below = N.cs_below;
        few = λ m l. N.cs_few m (omega arith);
        passes = N.cs_passes;
        rs_below = N.rs_below;
        left = N.rs_left;
      }
