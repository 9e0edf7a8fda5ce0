-- Codes of whole groups are asked, encoded, repaired and counted on by the rules of whole groups alone. Assumes nothing.
--   whole_stay    WholeStay of specs/Whole.antt
use mathlib.Core.Path.{◌≡◌, refl, sym, ap, ap₂, ◌∙◌}
use mathlib.Core.Bool.{true, ◌&&◌}
use Prim.Native.Nat.{ℕ, zero, suc, ◌+◌, ◌*◌, ◌-◌, ◌/◌, ◌%◌, ◌≤◌, ◌<◌}
use native.Mathlib.Nat.{div-add-mod', mul_comm}
use native.Mathlib.Decide.{dec_lt}
use native.Mathlib.Omega.{arith}
use borrow.Author.Tests.{le-leb, lt-leb, eq-eqb}
use lib.Dec.{leb, eqb}
use lib.ListN.{length}
use lib.Seq.{take_all}
use Rattle.field.specs.Field.{q, power}
use Rattle.code.specs.declared.Code.{Code}
use Rattle.code.specs.declared.Shape.{Shape}
use Rattle.code.specs.Question.{ask}
use Rattle.code.specs.Shape.{ceiling, size, groups, room, missing, group, members, others, mates}
use Rattle.code.specs.Basis.{basis}
use Rattle.code.specs.Codeword.{guarantee}
use Rattle.code.specs.Family.{single, field_known, r_fits, n_fits, k_fits, wiring_fits, code_refusal}
use Rattle.code.specs.Promise.{CodeNumbers}
use Rattle.code.specs.Whole.{multiple_fits, rate_fits, whole_refusal, WholeStay}
use Rattle.code.proofs.Places.{n_room}
use Rattle.code.proofs.Others.{length_others}
use Rattle.code.proofs.Mates.{length_mates, mates_whole}
use Rattle.code.proofs.Monomial.{basis_power}
use Rattle.code.proofs.Grouped.{exponent_raised}
use Rattle.code.proofs.Accepted.{groups_whole, room_whole, whole_of, least_whole, plain_of}
use Rattle.code.proofs.Shared.{code_numbers}
use Rattle.algebra.proofs.Locality.{raised}

module _ (c : Code) (z : c.n % (c.r + 1) ≡ 0) where
  abbrev s : Shape
  s = single c

  some : 1 ≤ size s
  unfolding size
  some = omega arith

  multiple : s.n % size s ≡ 0
  unfolding size
  multiple = z

  room_is : room s ≡ c.n
  room_is = room_whole s some multiple

  groups_are : groups s ≡ c.n / (c.r + 1)
  unfolding size
  groups_are = groups_whole s some multiple

  parts : c.n / (c.r + 1) * (c.r + 1) ≡ c.n
  parts = omega (arith, div-add-mod' c.n (c.r + 1))

  -- 3
  same_length : n_fits s ≡ multiple_fits c
  unfolding n_fits multiple_fits size
  same_length =
      rw (eq-eqb (c.n % (c.r + 1)) 0 z, ap (λ n. eqb n 1) z, room_is) (go (dec_lt c.n 1))
    where
      go : Dec (c.n < 1) → (leb 1 c.n && true) && leb c.n (q c.field - 1) ≡ leb (c.r + 1) c.n && leb c.n (q c.field - 1)
      go (yes h) = rw (lt-leb 1 c.n h, lt-leb (c.r + 1) c.n (omega arith)) refl
      go (no h) = rw (le-leb 1 c.n (omega arith), le-leb (c.r + 1) c.n (at_least (c.n / (c.r + 1)) parts)) refl
        where
          at_least : (g : ℕ) → g * (c.r + 1) ≡ c.n → c.r + 1 ≤ c.n
          at_least zero e = absurd (omega arith)
          at_least (suc g) e = omega arith

  -- 4
  same_rate : k_fits s ≡ rate_fits c
  unfolding k_fits rate_fits
  same_rate = ap₂ ◌&&◌ (ap (λ n. leb n c.k) (least_whole s (whole_of s some multiple))) (go (dec_lt (c.r * (c.n / (c.r + 1))) c.k))
    where
      go : Dec (c.r * (c.n / (c.r + 1)) < c.k) → leb (c.k + 1 * groups s) c.n ≡ leb c.k (c.r * (c.n / (c.r + 1)))
      go (yes h) = lt-leb (c.k + 1 * groups s) c.n (omega (arith, groups_are, parts, mul_comm c.r (c.n / (c.r + 1)))) ∙ sym (lt-leb c.k (c.r * (c.n / (c.r + 1))) h)
      go (no h) =
          let l : c.k ≤ c.r * (c.n / (c.r + 1)) = omega arith in
          le-leb (c.k + 1 * groups s) c.n (omega (arith, groups_are, parts, mul_comm c.r (c.n / (c.r + 1)))) ∙ sym (le-leb c.k (c.r * (c.n / (c.r + 1))) l)

  same_questions : code_refusal c ≡ whole_refusal c
  unfolding code_refusal whole_refusal
  same_questions = ap₂ (λ a b. ask (field_known s) 1 (ask (r_fits s) 2 (ask a 3 (ask b 4 (ask (wiring_fits s) 17 0))))) same_length same_rate

  same_exponents : (m x : ℕ) → basis s m x ≡ power c.field x (m / c.r * (c.r + 1) + m % c.r)
  unfolding raised size
  same_exponents m x = basis_power s m x (whole_of s some multiple) ∙ ap (power c.field x) (exponent_raised s refl m)

  same_mates : code_refusal c ≡ 0 → (p : ℕ) → p < c.n → (mates s p ≡ others s p) × (length (mates s p) ≡ c.r)
  unfolding mates size
  same_mates e p h =
      let P = (plain_of c e).family.placed in
      let w = whole_of s some multiple in
      let l = mates_whole s P w p h in
      (take_all (members s (group s p) - 1) (others s p) (omega (arith, length_others s P p (omega (arith, n_room s P)), length_mates s P p h, l)), omega (arith, l))

  same_sure : code_refusal c ≡ 0 → guarantee s + (c.k + ceiling c.k c.r) ≡ c.n + 1
  unfolding CodeNumbers
  same_sure e =
      let N = code_numbers c e in
      let k : c.k + missing s ≡ c.k = omega (arith, N.none z) in
      omega (arith, N.sure, ap (λ n. ceiling n c.r) k)

pub whole_stay : WholeStay
unfolding WholeStay
whole_stay c z =
    record { questions = same_questions c z; exponents = same_exponents c z; group_number = groups_are c z; mates_all = same_mates c z; sure = same_sure c z }
