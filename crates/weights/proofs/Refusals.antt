-- Which questions the weights call has passed whose refusal is 0, and that it is 0 where they are passed. Assumes nothing.
--   weights_passed, weights_accepted
use mathlib.Core.Path.{◌≡◌, refl, sym}
use Prim.Native.Nat.{ℕ, ◌<◌}
use borrow.Author.Tests.{lt-ltb}
use lib.Dec.{ltb, ltb→lt}
use Rattle.code.specs.declared.Shape.{Shape}
use Rattle.code.specs.Question.{ask}
use Rattle.code.proofs.Questions.{ask_yes, or_ask_on, asked, or_ask_passed}
use Rattle.weights.specs.Weights.{weights_refusal}

module _ (n : ℕ) (s : Shape) (p : ℕ) where
  pub weights_passed : weights_refusal n s p ≡ 0 → (n ≡ 0) × (p < s.n)
  unfolding weights_refusal
  weights_passed e =
      let t = or_ask_passed n (ask (ltb p s.n) 7 0) e in
      (t.0, ltb→lt p s.n (asked (ltb p s.n) 6 0 t.1).0)

  pub weights_accepted : n ≡ 0 → p < s.n → weights_refusal n s p ≡ 0
  unfolding weights_refusal
  weights_accepted e h = sym (or_ask_on n (ask (ltb p s.n) 7 0) 0 e (ask_yes 7 (lt-ltb p s.n h) refl))
