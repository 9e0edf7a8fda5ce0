-- Which questions a call has passed whose refusal is 0, and that it is 0 where they are passed. Assumes nothing.
--   last_yes, last_no, was_yes, was_no           what the last question says, and what was asked
--   strips_passed, strips_accepted               the questions before 9
--   mates_on                                     no refusal before 9
--   mates_passed, mates_asked, mates_accepted    all of them
use mathlib.Core.Path.{◌≡◌, refl, sym, ap, ◌∙◌}
use mathlib.Core.Bool.{Bool, true, false, ◌&&◌}
use mathlib.Core.List.{List}
use Prim.Native.Nat.{ℕ, ◌*◌, ◌≤◌}
use native.Mathlib.Omega.{arith}
use borrow.Author.Tests.{lt-ltb, le-leb, eq-eqb}
use lib.Dec.{leb, ltb, eqb, leb→le, ltb→lt, eqb→eq}
use lib.ListN.{length}
use Rattle.algebra.specs.Sequence.{all_below}
use Rattle.algebra.proofs.Booleans.{yes_true, and_left, and_right}
use Rattle.field.specs.Field.{q}
use Rattle.code.specs.declared.Shape.{Shape}
use Rattle.code.specs.Shape.{mates_number}
use Rattle.code.specs.Held.{columns_held}
use Rattle.code.specs.Question.{ask}
use Rattle.code.proofs.Questions.{ask_yes, ask_no, or_ask_on, asked, or_ask_passed}
use Rattle.code.proofs.Mates.{mates_number_is}
use Rattle.repair.specs.Mates.{strips_fit, strips_refusal, mates_refusal}
use Rattle.repair.specs.Promise.{Strips}

-- the last question alone
pub last_yes : (b : Bool) → b ≡ true → ask b 9 0 ≡ 0
last_yes b e = sym (ask_yes 9 e refl)

pub last_no : (b : Bool) → b ≡ false → ask b 9 0 ≡ 9
last_no b e = sym (ask_no 9 0 e)

pub was_yes : (b : Bool) → ask b 9 0 ≡ 0 → b ≡ true
was_yes b e = yes_true b (asked b 8 0 e).0

pub was_no : (b : Bool) → ask b 9 0 ≡ 9 → b ≡ false
was_no true e = absurd (omega (arith, last_yes true refl))
was_no false e = refl

module _ (n : ℕ) (s : Shape) (p l : ℕ) (xs : List ℕ) where
  pub strips_passed : strips_refusal n s p l xs ≡ 0 → (n ≡ 0) × Strips s p l xs
  unfolding strips_refusal strips_fit
  strips_passed e =
      let fit = strips_fit s p l (length xs) in
      let slot = ltb p s.n in
      let below = all_below (q s.field) xs in
      let t₀ = or_ask_passed n (ask fit 5 (ask slot 7 (ask below 6 0))) e in
      let t₁ = asked fit 4 (ask slot 7 (ask below 6 0)) t₀.1 in
      let t₂ = asked slot 6 (ask below 6 0) t₁.1 in
      let t₃ = asked below 5 0 t₂.1 in
      let enough = eqb (length xs) (mates_number s p * l) in
      let range = and_left (leb 1 l && leb l 4096) enough t₁.0 in
      let h = ltb→lt p s.n t₂.0 in (
        t₀.0,
        record {
          slot = h;
          least = leb→le 1 l (and_left (leb 1 l) (leb l 4096) range);
          most = leb→le l 4096 (and_right (leb 1 l) (leb l 4096) range);
          long = eqb→eq (length xs) (mates_number s p * l) (and_right (leb 1 l && leb l 4096) enough t₁.0) ∙ ap (λ k. k * l) (mates_number_is s p h);
          below = yes_true below t₃.0;
        },
      )

  fits : 1 ≤ l → l ≤ 4096 → length xs ≡ mates_number s p * l → strips_fit s p l (length xs) ≡ true
  unfolding strips_fit
  fits a b e = rw (le-leb 1 l a, le-leb l 4096 b, eq-eqb (length xs) (mates_number s p * l) e) refl

  pub strips_accepted : n ≡ 0 → Strips s p l xs → strips_refusal n s p l xs ≡ 0
  unfolding strips_refusal
  strips_accepted e Q =
      let k = Q.long ∙ ap (λ k. k * l) (sym (mates_number_is s p Q.slot)) in
      sym (or_ask_on n _ 0 e (ask_yes 5 (fits Q.least Q.most k) (ask_yes 7 (lt-ltb p s.n Q.slot) (ask_yes 6 Q.below refl))))

  pub mates_on : strips_refusal n s p l xs ≡ 0 → mates_refusal n s p l xs ≡ ask (columns_held s p l xs) 9 0
  unfolding mates_refusal
  mates_on e = sym (or_ask_on (strips_refusal n s p l xs) (ask (columns_held s p l xs) 9 0) _ e refl)

  pub mates_passed : mates_refusal n s p l xs ≡ 0 → (n ≡ 0) × Strips s p l xs × (columns_held s p l xs ≡ true)
  unfolding mates_refusal
  mates_passed e =
      let t = or_ask_passed (strips_refusal n s p l xs) (ask (columns_held s p l xs) 9 0) e in
      let u = strips_passed t.0 in
      (u.0, u.1, was_yes (columns_held s p l xs) t.1)

  -- the questions before 9 are passed: the last one decides
  pub mates_asked : n ≡ 0 → Strips s p l xs → mates_refusal n s p l xs ≡ ask (columns_held s p l xs) 9 0
  mates_asked e Q = mates_on (strips_accepted e Q)

  pub mates_accepted : n ≡ 0 → Strips s p l xs → columns_held s p l xs ≡ true → mates_refusal n s p l xs ≡ 0
  mates_accepted e Q m = mates_asked e Q ∙ last_yes (columns_held s p l xs) m
