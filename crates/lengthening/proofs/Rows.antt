-- The coefficients of h times the last symbols, and the first symbols behind them, are the row of a message. Assumes nothing.
--   row_is
use mathlib.Core.Path.{◌≡◌, sym, ap, ap₂, ◌∙◌}
use mathlib.Core.Bool.{false}
use mathlib.Core.List.{List, ◌++◌}
use Prim.Native.Nat.{ℕ, ◌+◌, ◌-◌, ◌<◌}
use native.Mathlib.Decide.{dec_lt}
use native.Mathlib.Omega.{arith}
use lib.Dec.{T}
use lib.ListN.{length, take, drop, length-append, get_or-append}
use lib.Seq.{ext_get_or, length-take-le, get_or-take, get_or-append-add}
use Rattle.algebra.specs.Ring.{Ring}
use Rattle.algebra.specs.Sequence.{at, all_below}
use Rattle.algebra.specs.Polynomial.{eval}
use Rattle.algebra.proofs.At.{at_past}
use Rattle.algebra.proofs.Booleans.{so, yes_true}
use Rattle.algebra.proofs.Below.{all_below_take, all_below_drop, all_below_both}
use Rattle.algebra.proofs.Based.{based}
use Rattle.algebra.proofs.Blocks.{vanish}
use Rattle.field.specs.Field.{q, times}
use Rattle.field.specs.Polynomial.{poly}
use Rattle.field.proofs.Elem.{Elem, same, ring_of}
use Rattle.field.proofs.Elements.{els, els_append, poly_els}
use Rattle.field.proofs.Values.{poly_ext}
use Rattle.code.specs.declared.Shape.{Shape}
use Rattle.code.specs.Shape.{missing, whole}
use Rattle.code.specs.Basis.{lead, vanishing}
use Rattle.code.specs.Laws.{Placed, Plain}
use Rattle.code.proofs.Bounds.{r_most, lead_is, lead_most}
use Rattle.code.proofs.Codewords.{MessageIs}
use Rattle.code.proofs.ShortBasis.{goods, behind, good_is, vanish_is}
use Rattle.code.proofs.Expansion.{value_short}
use Rattle.local_code.specs.Step.{local_coefs}
use Rattle.local_code.proofs.Symbols.{local_based}
use Rattle.lengthening.specs.Step.{Tail, Row}

module _ (s : Shape) (L : Plain s) (short : whole s ≡ false) where
  abbrev P : Placed s
  P = L.family.placed

  module _ (xs : List ℕ) (M : MessageIs s xs) (z rs : List ℕ) (A : Tail s (drop (lead s) xs) z) (size : length rs ≡ s.k + missing s)
      (first : (p : ℕ) → p < s.r → at rs p ≡ at z p) (rest : (m : ℕ) → m < lead s → at rs (s.r + m) ≡ at xs m) where
    abbrev f : ℕ
    f = s.field

    abbrev R : Ring
    R = ring_of s.field

    abbrev ts : List ℕ
    ts = take s.r z

    abbrev us : List ℕ
    us = take (lead s) xs

    ts_length : length ts ≡ s.r
    ts_length = length-take-le s.r z (omega (arith, A.room, r_most s P))

    us_length : length us ≡ lead s
    us_length = length-take-le (lead s) xs (omega (arith, M.length_is, lead_most s L short))

    parts : rs ≡ ts ++ us
    parts = ext_get_or 0 rs (ts ++ us) (size ∙ omega (arith, lead_is s L short, length-append ts us, ts_length, us_length)) (λ i h. go i (omega (arith, size)) (dec_lt i s.r))
      where
        go : (i : ℕ) → i < s.k + missing s → Dec (i < s.r) → at rs i ≡ at (ts ++ us) i
        go i h (yes l) = first i l ∙ sym (get_or-append ts us 0 i (omega (arith, ts_length)) ∙ get_or-take s.r z i 0 l)
        go i h (no l) =
            let n : i ≡ s.r + (i - s.r) = omega arith in
            let m : i ≡ length ts + (i - s.r) = omega (arith, ts_length) in
            ap (at rs) n ∙ rest (i - s.r) (omega (arith, lead_is s L short))
            ∙ sym (ap (at (ts ++ us)) m ∙ get_or-append-add ts us (i - s.r) 0 ∙ get_or-take (lead s) xs (i - s.r) 0 (omega (arith, lead_is s L short)))

    all : T (all_below (q f) rs)
    all = rw parts (all_below_both (q f) ts us (all_below_take (q f) s.r z (so A.below)) (all_below_take (q f) (lead s) xs M.below))

    -- the first r coefficients have the values of all 16
    short_of : (x : ℕ) → x < q f → poly f ts x ≡ poly f z x
    short_of x h = poly_ext f ts z x h (λ m. go m (dec_lt m s.r))
      where
        go : (m : ℕ) → Dec (m < s.r) → at ts m ≡ at z m
        go m (yes l) = get_or-take s.r z m 0 l
        go m (no l) = at_past ts m (omega (arith, ts_length)) ∙ sym (A.few m (omega arith))

    h_times : (x : Elem f) → eval R (els f ts) x ≡ R.mul (vanish R (behind s) x) (eval R (els f (drop (lead s) xs)) x)
    unfolding vanishing
    h_times x =
        same f _ _
        (sym (poly_els f ts (all_below_take (q f) s.r z (so A.below)) x) ∙ short_of x.0 x.1 ∙ A.values x.0 x.1
        ∙ ap₂ (times f) (sym (vanish_is s x (missing s) s.n)) (poly_els f (drop (lead s) xs) (all_below_drop (q f) (lead s) xs M.below) x))

    pub row_is : Row s xs rs
    row_is =
        record {
          size = size;
          below = yes_true (all_below (q f) rs) all;
          values = λ n h.
              let x : Elem f = (n, h) in
              ap (λ y. poly f (local_coefs s y rs) n) (sym (good_is s x)) ∙ local_based s P rs all (goods s x) x
              ∙ ap (λ zs. (based R s.r P.r_least (goods s x) x 0 zs).0) (ap (els f) parts ∙ els_append f ts us)
              ∙ sym (value_short s P short x xs ts M (lead_most s L short) ts_length (h_times x));
        }
