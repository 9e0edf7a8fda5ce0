-- The largest degree and the guarantee in closed form, whole groups or a short last one. Assumes nothing.
--   ceiling_is    ⌈k/r⌉ is (k - 1) / r + 1
--   exponents_are, shared_are, code_numbers    of specs/Promise.antt
use mathlib.Core.Path.{◌≡◌, refl, ap, ◌∙◌}
use mathlib.Core.Logic.{◌≢◌}
use mathlib.Core.Bool.{Bool, true, false}
use Prim.Native.Nat.{ℕ, suc, ◌+◌, ◌*◌, ◌-◌, ◌/◌, ◌%◌, ◌≤◌}
use native.Mathlib.Nat.{add-div_right}
use native.Mathlib.Omega.{arith}
use Rattle.code.specs.declared.Shape.{Shape}
use Rattle.code.specs.Laws.{Placed, Family, Whole}
use Rattle.code.specs.Family.{single}
use Rattle.code.specs.Shape.{ceiling, size, missing, whole}
use Rattle.code.specs.Basis.{exponent, degree, most_shared}
use Rattle.code.specs.Codeword.{guarantee}
use Rattle.code.specs.Promise.{ExponentsAre, SharedAre, CodeNumbers}
use Rattle.code.proofs.Places.{n_room, whole_room, whole_multiple, remainder}
use Rattle.code.proofs.Accepted.{whole_of, plain_of}
use Rattle.code.proofs.Grouped.{exponent_is, exponent_monotone, exponent_injective}

pub ceiling_is : (k r : ℕ) → 1 ≤ k → 1 ≤ r → ceiling k r ≡ suc ((k - 1) / r)
unfolding ceiling
ceiling_is k r h l = let e : k + r - 1 ≡ k - 1 + r = omega arith in ap (λ n. n / r) e ∙ add-div_right (k - 1) l ∙ omega arith

-- the degree, by k' = k + missing
module _ (s : Shape) (F : Family s) (none : s.second ≡ 0) where
  abbrev k' : ℕ
  k' = s.k + missing s

  degree_is : degree s ≡ k' - 1 + s.tolerance * (ceiling k' s.r - 1)
  unfolding degree
  degree_is =
      let c : (k' - 1) / s.r ≡ ceiling k' s.r - 1 = omega (arith, ceiling_is k' s.r (omega (arith, F.k_least)) F.placed.r_least) in
      exponent_is s F.placed none (k' - 1) ∙ ap (λ n. k' - 1 + s.tolerance * n) c

pub shared_are : SharedAre
unfolding SharedAre most_shared guarantee missing
shared_are s F none =
    let P = F.placed in
    let d = F.degree_most in
    record {
      most = omega (arith, degree_is s F none, F.k_least, n_room s P);
      sure = omega (arith, degree_is s F none, F.k_least, n_room s P);
    }

none_missing : (s : Shape) → Placed s → whole s ≡ true → missing s ≡ 0
unfolding missing
none_missing s P w = omega (arith, whole_room s P w)

last_is : (s : Shape) → Whole s → exponent s (s.k - 1) ≡ degree s
unfolding degree
last_is s L = ap (exponent s) (omega (arith, none_missing s L.plain.family.placed L.whole_groups))

pub exponents_are : ExponentsAre
unfolding ExponentsAre
exponents_are s L =
    let P = L.plain.family.placed in
    record {
      most = λ m h. omega (arith, exponent_monotone s P L.plain.second_none m (s.k - 1) (omega arith), last_is s L);
      last = last_is s L;
      differ = exponent_injective s P L.plain.second_none;
    }

-- where n is no multiple the last group is short
some_missing : (s : Shape) (P : Placed s) → s.n % size s ≢ 0 → missing s + s.n % size s ≡ size s
some_missing s P h = go (whole s) refl
  where
    go : (b : Bool) → whole s ≡ b → missing s + s.n % size s ≡ size s
    go true w = absurd (h (whole_multiple s P w))
    go false w = omega (arith, remainder s P w)

pub code_numbers : CodeNumbers
unfolding CodeNumbers SharedAre most_shared size
code_numbers c e =
    let s = single c in
    let L = plain_of c e in
    let P = L.family.placed in
    let S = shared_are s L.family L.second_none in
    let l = ceiling_is (c.k + missing s) c.r (omega (arith, L.family.k_least)) P.r_least in
    record {
      none = λ z. none_missing s P (whole_of s (omega arith) z);
      some = λ z. some_missing s P z;
      largest = omega (arith, degree_is s L.family refl, L.family.k_least);
      most = omega (arith, S.most, L.family.k_least);
      sure = omega (arith, S.sure, L.family.k_least);
    }
