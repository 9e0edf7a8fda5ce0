-- What the questions on two group sizes say; by a test there are as many exponents that both allow as k may be. Assumes nothing.
--   Sizes, sizes    the facts behind refusal 0
--   sizes_apart     no number from 1 to q - 2 is a multiple of both (q - 1)/u and (q - 1)/v: by a test
use mathlib.Core.Path.{◌≡◌}
use mathlib.Core.Bool.{Bool, true, false, not, ◌&&◌, ◌||◌}
use Prim.Native.Nat.{ℕ, zero, suc, ◌+◌, ◌*◌, ◌-◌, ◌/◌, ◌%◌, ◌≤◌, ◌<◌}
use native.Mathlib.Omega.{arith}
use borrow.Author.Tests.{eq-eqb}
use lib.Dec.{T, leb, eqb, eqb→eq, leb→le}
use Rattle.algebra.specs.Sequence.{count, every}
use Rattle.algebra.proofs.Booleans.{and_left, and_right}
use Rattle.algebra.proofs.Every.{every_at}
use Rattle.field.specs.Field.{q}
use Rattle.code.specs.Question.{ask}
use Rattle.code.specs.Basis.{free}
use Rattle.families.specs.Family.{size_fits, coprime, sizes_refusal}
use Rattle.code.proofs.Questions.{asked}

fits : (f u v : ℕ) → Bool
fits f u v = (size_fits f u && size_fits f v) && coprime u v

bound : (f u v : ℕ) → ℕ
bound f u v = (q f - 1) * (u - 1) * (v - 1) / (u * v)

test : (f : ℕ) → T (every (λ u. every (λ v. not (fits f u v) || leb (bound f u v) (count (free u v) (q f - 1))) 18) 18)
unfolding every fits bound size_fits coprime free count q
test zero = tt
test (suc f) = tt

-- d + 1 is no multiple of both
apart : (f u v d : ℕ) → Bool
apart f u v d = not (eqb ((d + 1) % ((q f - 1) / u)) 0 && eqb ((d + 1) % ((q f - 1) / v)) 0)

apart_test : (f : ℕ) → T (every (λ u. every (λ v. not (fits f u v) || every (apart f u v) (q f - 2)) 18) 18)
unfolding every fits apart size_fits coprime q
apart_test zero = tt
apart_test (suc f) = tt

implied : (a b : Bool) → T (not a || b) → T a → T b
implied true b t h = t
implied false b t h = absurd h

-- what the questions say
pub record Sizes (f u v k : ℕ) : Type 0 where
  pub field_most : f ≤ 1
  pub u_least : 2 ≤ u
  pub u_most : u ≤ 17
  pub u_divides : (q f - 1) % u ≡ 0
  pub v_least : 2 ≤ v
  pub v_most : v ≤ 17
  pub v_divides : (q f - 1) % v ≡ 0
  pub k_least : 1 ≤ k
  pub enough : k ≤ count (free u v) (q f - 1)

pub sizes : (f u v k : ℕ) → sizes_refusal f u v k ≡ 0 → Sizes f u v k
unfolding sizes_refusal size_fits fits bound
sizes f u v k e =
    let u₁ = leb 2 u in
    let u₂ = leb u 17 in
    let u₃ = eqb ((q f - 1) % u) 0 in
    let v₁ = leb 2 v in
    let v₂ = leb v 17 in
    let v₃ = eqb ((q f - 1) % v) 0 in
    let us = (u₁ && u₂) && u₃ in
    let vs = (v₁ && v₂) && v₃ in
    let most : ℕ = (q f - 1) * (u - 1) * (v - 1) / (u * v) in
    let k₁ = leb 1 k in
    let k₂ = leb k most in
    let t₁ = asked (leb f 1) 0 (ask ((us && vs) && coprime u v) 21 (ask (k₁ && k₂) 22 0)) e in
    let t₂ = asked ((us && vs) && coprime u v) 20 (ask (k₁ && k₂) 22 0) t₁.1 in
    let t₃ = asked (k₁ && k₂) 21 0 t₂.1 in
    let both = and_left (us && vs) (coprime u v) t₂.0 in
    let a = and_left us vs both in
    let b = and_right us vs both in
    let c = and_left (u₁ && u₂) u₃ a in
    let d = and_left (v₁ && v₂) v₃ b in
    let ul : u ≤ 17 = leb→le u 17 (and_right u₁ u₂ c) in
    let vl : v ≤ 17 = leb→le v 17 (and_right v₁ v₂ d) in
    let row = every_at (λ u. every (λ v. not (fits f u v) || leb (bound f u v) (count (free u v) (q f - 1))) 18) 18 (test f) u (omega arith) in
    let cell = every_at (λ v. not (fits f u v) || leb (bound f u v) (count (free u v) (q f - 1))) 18 row v (omega arith) in
    let room = leb→le most (count (free u v) (q f - 1)) (implied ((us && vs) && coprime u v) (leb most (count (free u v) (q f - 1))) cell t₂.0) in
    record {
      field_most = leb→le f 1 t₁.0;
      u_least = leb→le 2 u (and_left u₁ u₂ c);
      u_most = ul;
      u_divides = eqb→eq ((q f - 1) % u) 0 (and_right (u₁ && u₂) u₃ a);
      v_least = leb→le 2 v (and_left v₁ v₂ d);
      v_most = vl;
      v_divides = eqb→eq ((q f - 1) % v) 0 (and_right (v₁ && v₂) v₃ b);
      k_least = leb→le 1 k (and_left k₁ k₂ t₃.0);
      enough = omega (arith, leb→le k most (and_right k₁ k₂ t₃.0), room);
    }

pub sizes_apart : (f u v k d : ℕ) → sizes_refusal f u v k ≡ 0 → d < q f - 2 → (d + 1) % ((q f - 1) / u) ≡ 0 → (d + 1) % ((q f - 1) / v) ≡ 0 → ⊥
unfolding sizes_refusal fits apart
sizes_apart f u v k d e h a b =
    let Z = sizes f u v k e in
    let both = (size_fits f u && size_fits f v) && coprime u v in
    let ks = leb 1 k && leb k ((q f - 1) * (u - 1) * (v - 1) / (u * v)) in
    let t₁ = asked (leb f 1) 0 (ask both 21 (ask ks 22 0)) e in
    let t₂ = asked both 20 (ask ks 22 0) t₁.1 in
    let ul : u < 18 = omega (arith, Z.u_most) in
    let vl : v < 18 = omega (arith, Z.v_most) in
    let row = every_at (λ u. every (λ v. not (fits f u v) || every (apart f u v) (q f - 2)) 18) 18 (apart_test f) u ul in
    let cell = every_at (λ v. not (fits f u v) || every (apart f u v) (q f - 2)) 18 row v vl in
    let r = every_at (apart f u v) (q f - 2) (implied both (every (apart f u v) (q f - 2)) cell t₂.0) d h in
    rw (eq-eqb ((d + 1) % ((q f - 1) / u)) 0 a, eq-eqb ((d + 1) % ((q f - 1) / v)) 0 b) at r
