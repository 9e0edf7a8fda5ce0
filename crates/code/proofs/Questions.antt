-- Questions asked one after another. Assumes nothing.
--   ask_then       one question more: the refusal so far, then the rest
--   ask_and        two questions with one number are one question
--   ask_no, ask_yes            one question
--   or_ask_stop, or_ask_on     a refusal, or the questions after it
--   asked, or_ask_passed       what is passed where no question refuses
use mathlib.Core.Path.{◌≡◌, refl}
use mathlib.Core.Logic.{◌≢◌}
use mathlib.Core.Bool.{Bool, true, false, ◌&&◌}
use Prim.Native.Nat.{ℕ, zero, suc}
use native.Mathlib.Nat.{suc-ne-zero}
use native.Mathlib.Omega.{arith}
use borrow.Author.Tests.{eq-eqb, ne_eqb}
use lib.Dec.{T}
use Rattle.code.specs.Question.{ask, or_ask}

pub ask_then : (a : ℕ) (b : Bool) (n rest : ℕ) → or_ask (or_ask a (ask b (suc n) 0)) rest ≡ or_ask a (ask b (suc n) rest)
unfolding ask or_ask
ask_then zero true n rest = refl
ask_then zero false n rest = rw (ne_eqb (suc n) 0 (suc-ne-zero n)) refl
ask_then (suc a) b n rest = rw (ne_eqb (suc a) 0 (suc-ne-zero a), ne_eqb (suc a) 0 (suc-ne-zero a)) refl

pub ask_and : (a b : Bool) (n rest : ℕ) → ask a n (ask b n rest) ≡ ask (a && b) n rest
unfolding ask
ask_and true b n rest = refl
ask_and false b n rest = refl

pub ask_no : {b : Bool} (n rest : ℕ) → b ≡ false → n ≡ ask b n rest
unfolding ask
ask_no n rest e = rw e refl

pub ask_yes : {b : Bool} (n : ℕ) {x rest : ℕ} → b ≡ true → x ≡ rest → x ≡ ask b n rest
unfolding ask
ask_yes n e p = rw e p

pub or_ask_stop : (a b : ℕ) → a ≢ 0 → a ≡ or_ask a b
unfolding or_ask
or_ask_stop a b n = rw (ne_eqb a 0 n) refl

pub or_ask_on : (a b x : ℕ) → a ≡ 0 → x ≡ b → x ≡ or_ask a b
unfolding or_ask
or_ask_on a b x e p = rw (eq-eqb a 0 e) p

pub asked : (b : Bool) (m n : ℕ) → ask b (suc m) n ≡ 0 → T b × (n ≡ 0)
unfolding ask
asked true m n e = (tt, e)
asked false m n e = omega arith

pub or_ask_passed : (a b : ℕ) → or_ask a b ≡ 0 → (a ≡ 0) × (b ≡ 0)
unfolding or_ask
or_ask_passed zero b e = (refl, e)
or_ask_passed (suc a) b e = absurd (omega (arith, rw (ne_eqb (suc a) 0 (λ z. omega arith)) at e))
