-- What questions 1 to 4 and 17 say of an accepted code: its shape is a plain family. Assumes nothing.
--   groups_whole, room_whole, whole_of    n is a multiple of the group size
--   placed_by, not_one, k_by      what questions 1 to 3, 3 and 4 say
--   least_whole, least_short      the least k
--   Good s, good_of               the facts behind refusal 0
--   plain_good, plain_of, wiring_of, decodable_of, mending_of, mending    what an accepted code's shape is
--   families       Families of specs/Promise.antt
use mathlib.Core.Path.{◌≡◌, refl, sym, ap, ◌∙◌}
use mathlib.Core.Logic.{◌≢◌}
use mathlib.Core.Bool.{Bool, true, false, not, ◌&&◌, ◌||◌}
use Prim.Native.Nat.{ℕ, ◌+◌, ◌*◌, ◌-◌, ◌/◌, ◌%◌, ◌≤◌}
use native.Mathlib.Nat.{div-add-mod'}
use native.Mathlib.Omega.{arith}
use borrow.Author.Tests.{eq-eqb}
use lib.Arith.{digits_div}
use lib.Dec.{T, leb, eqb, eqb→eq, leb→le}
use Rattle.algebra.proofs.Booleans.{so, and_left, and_right}
use Rattle.field.specs.Field.{q}
use Rattle.code.specs.declared.Code.{Code}
use Rattle.code.specs.declared.Shape.{Shape}
use Rattle.code.specs.Question.{ask}
use Rattle.code.specs.Shape.{ceiling, size, groups, room, missing, whole, wired}
use Rattle.code.specs.Family.{single, field_known, r_fits, n_fits, least, k_fits, wiring_fits, code_refusal}
use Rattle.code.specs.Laws.{Placed, Family, Plain, Mending, Decodable}
use Rattle.code.specs.Promise.{Families}
use Rattle.code.proofs.Questions.{asked}
use Rattle.code.proofs.Places.{missing_less, remainder}
use Rattle.code.proofs.Grouped.{size_sum, grouped_whole}
use Rattle.code.proofs.Short.{short}

module _ (s : Shape) (some : 1 ≤ size s) (multiple : s.n % size s ≡ 0) where
  parts : s.n ≡ s.n / size s * size s
  parts = omega (arith, div-add-mod' s.n (size s))

  pub groups_whole : groups s ≡ s.n / size s
  unfolding groups ceiling
  groups_whole =
      let e : s.n + size s - 1 ≡ s.n / size s * size s + (size s - 1) = omega (arith, parts) in
      ap (λ n. n / size s) e ∙ digits_div (s.n / size s) (omega arith)

  pub room_whole : room s ≡ s.n
  unfolding room
  room_whole = ap (λ n. n * size s) groups_whole ∙ sym parts

  pub whole_of : whole s ≡ true
  unfolding whole missing
  whole_of = eq-eqb (room s - s.n) 0 (omega (arith, room_whole))

pub placed_by : (s : Shape) → T (field_known s) → T (r_fits s) → T (n_fits s) → 1 ≤ s.tolerance → (wired s ≡ true → whole s ≡ true) → Placed s
unfolding field_known r_fits n_fits
placed_by s t₁ t₂ t₃ one w =
    let g : ℕ = size s in
    let v : ℕ = q s.field - 1 in
    let r₁ = leb 1 s.r in
    let r₂ = leb g 17 in
    let n₁ = leb 1 s.n in
    let n₂ = not (eqb (s.n % g) 1) in
    let rs = and_left (r₁ && r₂) (eqb (v % g) 0) t₂ in
    let ns = and_left (n₁ && n₂) (leb (room s) v) t₃ in
    record {
      field_most = leb→le s.field 1 t₁;
      r_least = leb→le 1 s.r (and_left r₁ r₂ rs);
      tolerance_least = one;
      size_most = leb→le g 17 (and_right r₁ r₂ rs);
      size_divides = eqb→eq (v % g) 0 (and_right (r₁ && r₂) (eqb (v % g) 0) t₂);
      n_least = leb→le 1 s.n (and_left n₁ n₂ ns);
      room_most = leb→le (room s) v (and_right (n₁ && n₂) (leb (room s) v) t₃);
      wired_whole = w;
    }

-- the last group has more than one slot
pub not_one : (s : Shape) → T (n_fits s) → s.n % size s ≢ 1
unfolding n_fits
not_one s t e =
    let n₁ = leb 1 s.n in
    let n₂ = not (eqb (s.n % size s) 1) in
    let u = and_right n₁ n₂ (and_left (n₁ && n₂) (leb (room s) (q s.field - 1)) t) in
    rw (eq-eqb (s.n % size s) 1 e) at u

pub k_by : (s : Shape) → T (k_fits s) → (least s ≤ s.k) × (s.k + s.tolerance * groups s ≤ s.n)
unfolding k_fits
k_by s t =
    let a = leb (least s) s.k in
    let b = leb (s.k + s.tolerance * groups s) s.n in
    (leb→le (least s) s.k (and_left a b t), leb→le (s.k + s.tolerance * groups s) s.n (and_right a b t))

pub least_whole : (s : Shape) → whole s ≡ true → least s ≡ 1
unfolding least
least_whole s w = rw w refl

pub least_short : (s : Shape) → whole s ≡ false → least s ≡ s.n % size s - 1
unfolding least
least_short s w = rw w refl

-- either wiring of whole groups, or wiring 0
spread_whole : (s : Shape) → 1 ≤ s.tolerance → T (wiring_fits s) → wired s ≡ true → whole s ≡ true
unfolding wiring_fits wired size
spread_whole s some t e = go (eqb s.wiring 0) (λ z. eqb→eq s.wiring 0 z) t
  where
    one : s.wiring ≡ 1
    one = eqb→eq s.wiring 1 (so e)

    go : (b : Bool) → (T b → s.wiring ≡ 0) → T (b || (eqb s.wiring 1 && eqb (s.n % size s) 0)) → whole s ≡ true
    go true z v = let n : s.wiring ≡ 0 = z tt in absurd (omega (arith, one))
    go false z v = whole_of s (omega arith) (eqb→eq (s.n % size s) 0 (and_right (eqb s.wiring 1) (eqb (s.n % size s) 0) v))

wiring_known : (w : ℕ) (b : Bool) → T (eqb w 0 || (eqb w 1 && b)) → w ≤ 1
wiring_known w b t = go (eqb w 0) (eqb→eq w 0) (eqb w 1) (eqb→eq w 1) t
  where
    go : (x : Bool) → (T x → w ≡ 0) → (y : Bool) → (T y → w ≡ 1) → T (x || (y && b)) → w ≤ 1
    go true e y f t = omega (arith, e tt)
    go false e true f t = omega (arith, f tt)
    go false e false f t = absurd t

-- the facts behind refusal 0
pub record Good (s : Shape) : Type 0 where
  pub placed : Placed s
  pub more : s.n % size s ≢ 1
  pub k_low : least s ≤ s.k
  pub k_most : s.k + s.tolerance * groups s ≤ s.n

-- a code's questions, one by one
passed : (c : Code) → code_refusal c ≡ 0
    → let s = single c in T (field_known s) × T (r_fits s) × T (n_fits s) × T (k_fits s) × T (wiring_fits s)
unfolding code_refusal
passed c e =
    let s = single c in
    let x₄ : ℕ = ask (wiring_fits s) 17 0 in
    let x₃ : ℕ = ask (k_fits s) 4 x₄ in
    let x₂ : ℕ = ask (n_fits s) 3 x₃ in
    let t₁ = asked (field_known s) 0 (ask (r_fits s) 2 x₂) e in
    let t₂ = asked (r_fits s) 1 x₂ t₁.1 in
    let t₃ = asked (n_fits s) 2 x₃ t₂.1 in
    let t₄ = asked (k_fits s) 3 x₄ t₃.1 in
    let t₅ = asked (wiring_fits s) 16 0 t₄.1 in
    (t₁.0, t₂.0, t₃.0, t₄.0, t₅.0)

pub good_of : (c : Code) → code_refusal c ≡ 0 → Good (single c)
good_of c e =
    let s = single c in
    let t = passed c e in
    let b = k_by s t.3 in
    record {
      placed = placed_by s t.0 t.1 t.2 (omega arith) (spread_whole s (omega arith) t.4);
      more = not_one s t.2;
      k_low = b.0;
      k_most = b.1;
    }

pub wiring_of : (c : Code) → code_refusal c ≡ 0 → c.wiring ≤ 1
unfolding wiring_fits
wiring_of c e = let s = single c in wiring_known c.wiring (eqb (s.n % size s) 0) (passed c e).4

module _ (s : Shape) (G : Good s) (none : s.second ≡ 0) where
  k_some : 1 ≤ s.k
  k_some = go (whole s) refl
    where
      go : (b : Bool) → whole s ≡ b → 1 ≤ s.k
      go true w = omega (arith, G.k_low, least_whole s w)
      go false w = omega (arith, G.k_low, least_short s w, G.more, G.placed.r_least, size_sum s G.placed none, missing_less s G.placed, remainder s G.placed w)

  last_some : s.tolerance ≡ 1 → whole s ≡ false → s.r ≤ s.k + missing s
  last_some one w = omega (arith, G.k_low, least_short s w, size_sum s G.placed none, remainder s G.placed w, G.placed.r_least)

  -- a short last group needs groups that stand one loss
  pub plain_good : (whole s ≡ false → s.tolerance ≡ 1) → Plain s
  plain_good one =
      record { family = go (whole s) refl; k_most = G.k_most; k_last = λ w. last_some (one w) w; short_one = one; second_none = none }
    where
      go : (b : Bool) → whole s ≡ b → Family s
      go true w = grouped_whole s G.placed none k_some G.k_most w
      go false w = short s G.placed none w k_some G.k_most (last_some (one w) w)

pub plain_of : (c : Code) → code_refusal c ≡ 0 → Plain (single c)
plain_of c e = plain_good (single c) (good_of c e) refl (λ _. refl)

pub decodable_of : (c : Code) → code_refusal c ≡ 0 → Decodable (single c)
decodable_of c e = record { plain = plain_of c e; one = refl }

pub mending : (s : Shape) → Decodable s → Mending s
mending s D = record { placed = D.plain.family.placed; one = D.one }

pub mending_of : (c : Code) → code_refusal c ≡ 0 → Mending (single c)
mending_of c e = mending (single c) (decodable_of c e)

pub families : Families
unfolding Families
families c e = plain_of c e
