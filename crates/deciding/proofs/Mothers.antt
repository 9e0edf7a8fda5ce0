-- The losses of a code, by those of the code of whole groups that it is a shortened code of: its missing places are kept. Assumes nothing.
--   long, short_of    a message of the one is one of the other, with the same polynomial
--   undecided_is      losses are undecided just where a codeword of whole groups that is not 0 is 0 at every kept place
--   system_fits       work has room for the equations
--   marked            the marks over all places
--   asked             what is asked of the code of whole groups
use mathlib.Core.Path.{◌≡◌, refl, sym, ap, ap₂, subst, ◌∙◌}
use mathlib.Core.Logic.{◌≢◌}
use mathlib.Core.Bool.{Bool, true, false, not}
use mathlib.Core.List.{List}
use Prim.Native.Nat.{ℕ, ◌+◌, ◌*◌, ◌-◌, ◌≤◌, ◌<◌}
use native.Mathlib.Nat.{mul-le-mul, mul-le-mul_left, div-lt_iff_lt-mul}
use native.Mathlib.Decide.{dec_lt}
use native.Mathlib.Omega.{arith}
use lib.Dec.{eqb→eq}
use lib.ListN.{length, take, replicate, length-replicate}
use borrow.Rule.Slice.PartMut.{put_mid}
use Rattle.algebra.specs.Sequence.{at}
use Rattle.algebra.proofs.Booleans.{so, yes_true, no_false}
use Rattle.code.specs.declared.Shape.{Shape}
use Rattle.code.specs.Shape.{room, missing, whole}
use Rattle.code.specs.Codeword.{is_message, value, symbol, guarantee}
use Rattle.code.specs.Decoding.{undecided}
use Rattle.code.specs.Erasure.{lost_number}
use Rattle.code.specs.Laws.{Placed, Family, Plain, Whole, Decodable}
use Rattle.code.proofs.Places.{n_room, whole_room, missing_less}
use Rattle.code.proofs.Bounds.{size_is}
use Rattle.code.proofs.Codewords.{MessageIs, message_is, is_message_of}
use Rattle.code.proofs.Distance.{symbol_behind}
use Rattle.code.proofs.Differences.{apart, apart_message, apart_zero, apart_same, zero_word}
use Rattle.code.proofs.Deciding.{Two, shared_all, two_of, undecided_of}
use Rattle.fitting.proofs.Fronts.{laid_front, slots_room}
use Rattle.shortening.specs.Mother.{mother, Shortens}
use Rattle.shortening.proofs.Mother.{symbol_mother, mother_whole, mother_guarantee}
use Rattle.shortening.proofs.Lengthening.{Lengthened, lengthens}
use Rattle.shortening.proofs.Shortened.{shortened}
use Rattle.shortening.proofs.Extending.{Extended, extended, extended_lost}
use Rattle.deciding.specs.Step.{gaps, system_size, Annuls, Annulled, none, some}

module _ (s : Shape) (L : Plain s) where
  abbrev P : Placed s
  P = L.family.placed

  abbrev F : Family (mother s)
  F = (mother_whole s L).plain.family

  -- a code of whole groups is its own
  mother_same : whole s ≡ true → mother s ≡ s
  unfolding whole missing
  mother_same w =
      let none : room s - s.n ≡ 0 = eqb→eq (room s - s.n) 0 (so w) in
      let k : s.k + (room s - s.n) ≡ s.k = omega arith in
      ap₂ (λ n k. record { field = s.field; r = s.r; n = n; k = k; wiring = s.wiring; tolerance = s.tolerance; second = s.second }) (whole_room s P w) k

  long : (xs : List ℕ) → MessageIs s xs → Lengthened s xs
  long xs X = go (whole s) refl
    where
      go : (b : Bool) → whole s ≡ b → Lengthened s xs
      go true w =
          record { to = xs; message = subst (λ t. MessageIs t xs) (sym (mother_same w)) X; same = λ x h. ap (λ t. value t xs x) (sym (mother_same w)) }
      go false w = lengthens s L w xs X

  short_of : (zs : List ℕ) → MessageIs (mother s) zs → ((p : ℕ) → s.n ≤ p → p < room s → symbol (mother s) zs p ≡ 0)
      → (xs : List ℕ) × Shortens s zs xs
  short_of zs Z z = go (whole s) refl
    where
      go : (b : Bool) → whole s ≡ b → (xs : List ℕ) × Shortens s zs xs
      go true w = (
        zs,
        record {
          message = subst (λ t. is_message t zs ≡ true) (mother_same w) (is_message_of (mother s) zs Z);
          same = λ x h. ap (λ t. value t zs x) (sym (mother_same w));
        },
      )
      go false w = shortened s L w zs Z z

  module _ (ms ns : List ℕ) (E : Extended s.n (room s) ms ns) where
    -- two messages are two of whole groups
    module _ (W : Two s ms) where
      abbrev a : Lengthened s W.one
      a = long W.one W.one_is

      abbrev b : Lengthened s W.other
      b = long W.other W.other_is

      agree : (p : ℕ) → p < room s → at ns p ≢ 1 → symbol (mother s) a.to p ≡ symbol (mother s) b.to p
      agree p h n =
          sym (symbol_mother s P W.one a.to a.same p) ∙ go (dec_lt p s.n) ∙ symbol_mother s P W.other b.to b.same p
        where
          go : Dec (p < s.n) → symbol s W.one p ≡ symbol s W.other p
          go (yes l) = W.agree p l (λ e. n (E.marks p l ∙ e))
          go (no l) =
              symbol_behind s L.family W.one W.one_is p (omega arith) h ∙ sym (symbol_behind s L.family W.other W.other_is p (omega arith) h)

      differ : a.to ≢ b.to
      differ e =
          W.differ
          (shared_all s L.family ms W.one W.other W.one_is W.other_is
          (λ p h. symbol_mother s P W.one a.to a.same p ∙ ap (λ l. symbol (mother s) l p) e
          ∙ sym (symbol_mother s P W.other b.to b.same p)))

      annuls : Annuls (mother s) ns (apart (mother s) F a.to b.to a.message b.message)
      annuls =
          let d = apart (mother s) F a.to b.to a.message b.message in
          record {
            message = is_message_of (mother s) d (apart_message (mother s) F a.to b.to a.message b.message);
            zeros = λ p h n. apart_zero (mother s) F a.to b.to a.message b.message p (agree p h n);
          }

    -- a codeword that is 0 at every kept place, and 0 itself, are two
    module _ (zs : List ℕ) (i : ℕ) (A : Annuls (mother s) ns zs) (n : at zs i ≢ 0) where
      abbrev Z : MessageIs (mother s) zs
      Z = message_is (mother s) zs A.message

      behind : (p : ℕ) → s.n ≤ p → p < room s → symbol (mother s) zs p ≡ 0
      behind p h l = A.zeros p l (λ e. absurd (omega (arith, E.behind p h)))

      own : (xs : List ℕ) × Shortens s zs xs
      own = short_of zs Z behind

      abbrev xs : List ℕ
      xs = own.0

      X : MessageIs s xs
      X = message_is s xs own.1.message

      abbrev os : List ℕ
      os = apart s L.family xs xs X X

      O : MessageIs s os
      O = apart_message s L.family xs xs X X

      nothing : (p : ℕ) → symbol s os p ≡ 0
      nothing p = apart_zero s L.family xs xs X X p refl

      same : (p : ℕ) → symbol s xs p ≡ symbol (mother s) zs p
      same p = symbol_mother s P xs zs own.1.same p

      two : Two s ms
      two =
          record {
            one = xs;
            other = os;
            one_is = X;
            other_is = O;
            agree = λ p h k. same p ∙ A.zeros p (omega (arith, n_room s P)) (λ e. k (sym (E.marks p h) ∙ e)) ∙ sym (nothing p);
            differ = λ e. n (zero_word (mother s) F zs Z (λ p h. sym (same p) ∙ ap (λ l. symbol s l p) e ∙ nothing p) i);
          }

    pub undecided_is : (x : Bool) → Annulled (mother s) ns x → x ≡ not (undecided s ms)
    undecided_is x (none h) =
        sym (ap not (no_false (undecided s ms) (λ t. no_two (two_of s L.family ms (yes_true (undecided s ms) t)))))
      where
        no_two : Two s ms → ⊥
        no_two W = differ W (apart_same (mother s) F (a W).to (b W).to (a W).message (b W).message (h _ (annuls W)))
    undecided_is x (some zs i A n) = sym (ap not (undecided_of s L.family ms (two zs i A n)))

  module _ (one : s.tolerance ≡ 1) where
    gaps_few : gaps (mother s) ≤ s.k
    gaps_few =
        let a : s.k * 1 ≤ s.k * s.r = mul-le-mul_left s.k P.r_least in
        let b : s.k + missing s - 1 < (s.k + 1) * s.r = omega (arith, missing_less s P, size_is s, L.family.k_least, P.r_least) in
        let c : gaps (mother s) < s.k + 1 = (div-lt_iff_lt-mul {k = s.r} {x = s.k + missing s - 1} {y = s.k + 1} P.r_least).1 b in
        omega arith

    pub system_fits : (w : ℕ) → s.k * (s.k + 1) + (s.k + 1) ≤ w → system_size (mother s) ≤ w
    system_fits w h =
        let l : gaps (mother s) + 1 ≤ s.k + 1 = omega (arith, gaps_few) in
        omega (arith, gaps_few, mul-le-mul {n₁ = gaps (mother s)} {m₁ = gaps (mother s) + 1} {n₂ = s.k} {m₂ = s.k + 1} gaps_few l)

-- the marks copied to a row of zeros: those over all places
pub marked : (s : Shape) → Placed s → (ms ys : List ℕ) (l : ℕ) → length ms ≡ s.n → (l ≡ room s) × (l ≤ 255) → ys ≡ ms
    → Extended s.n (room s) ms (take l (put_mid 0 (length ms) (replicate 256 0) ys))
marked s P ms ys l n e c =
    let k = put_mid 0 (length ms) (replicate 256 0) ys in
    let L = laid_front s.n ms ys (replicate 256 0) n c (omega (arith, slots_room s P ms n, length-replicate {A = ℕ} 256 0)) in
    subst (λ r. Extended s.n r ms (take l k)) e.0 (extended s.n l ms k (omega (arith, n_room s P)) (omega arith) L)

-- what is asked of t, the code of whole groups, and of the marks over all its places
pub asked : (s t : Shape) → Decodable s → t ≡ mother s → (ms ns : List ℕ) → Extended s.n (room s) ms ns → guarantee s < lost_number s ms
    → (w : ℕ) → s.k * (s.k + 1) + (s.k + 1) ≤ w
    → Whole t × (t.tolerance ≡ 1) × (length ns ≡ t.n) × (guarantee t < lost_number t ns) × (system_size t ≤ w)
asked s t D e ms ns E h w l =
    let L = D.plain in
    subst (λ t. Whole t × (t.tolerance ≡ 1) × (length ns ≡ t.n) × (guarantee t < lost_number t ns) × (system_size t ≤ w)) (sym e)
    (mother_whole s L, D.one, E.size, omega (arith, mother_guarantee s L, extended_lost s L.family.placed ms ns E), system_fits s L D.one w l)
