-- One question more, as questions::ask asks it. Assumes nothing.
--   after, after_two    the questions that come after it; after two with one number
--   ask_passed              what it says where it does not refuse
use mathlib.Core.Path.{◌≡◌, sym, ap, ◌∙◌}
use mathlib.Core.Bool.{Bool, ◌&&◌}
use Prim.Native.Nat.{ℕ, suc}
use lib.Dec.{T}
use Rattle.code.specs.Question.{ask, or_ask}
use Rattle.code.proofs.Questions.{ask_then, ask_and, asked, or_ask_passed}

module _ (a x : ℕ) (b : Bool) (n : ℕ) (e : x ≡ or_ask a (ask b (suc n) 0)) where
  pub after : (rest : ℕ) → or_ask x rest ≡ or_ask a (ask b (suc n) rest)
  after rest = ap (λ y. or_ask y rest) e ∙ ask_then a b n rest

  pub after_two : (y : ℕ) (c : Bool) → y ≡ or_ask x (ask c (suc n) 0) → (rest : ℕ) → or_ask y rest ≡ or_ask a (ask (b && c) (suc n) rest)
  after_two y c d rest =
      ap (λ y. or_ask y rest) d ∙ ask_then x c n rest ∙ after (ask c (suc n) rest) ∙ ap (or_ask a) (ask_and b c (suc n) rest)

  pub ask_passed : x ≡ 0 → (a ≡ 0) × T b
  ask_passed z = let o = or_ask_passed a (ask b (suc n) 0) (sym e ∙ z) in (o.0, (asked b n 0 o.1).0)
