-- Questions asked one after another by `?`. Assumes nothing.
--   refused      after a refusal nothing is asked: its number stands
--   passed       where nothing was refused, the question decides
--   is_refusal   the number of a refusal is not 0
--   chain        what the returns of a chain of `?` follow by, for `using`
use mathlib.Core.Path.{◌≡◌, refl}
use mathlib.Core.Logic.{◌≢◌}
use Prim.Native.Nat.{ℕ}
use native.Mathlib.Omega.{arith}
use Rattle.code.specs.Question.{or_ask}
use Rattle.code.proofs.Answers.{fills_no, fills_yes, answers_no, answers_yes}
use Rattle.refusal.specs.Refusal.{number}
use Rattle.refusal.specs.declared.Refusal.{Refusal}

pub is_refusal : (e : Refusal) → number e ≢ 0
is_refusal e h = grind arith

pub refused : (e : Refusal) (b : ℕ) → or_ask (number e) b ≡ number e
unfolding or_ask
refused e b = grind arith

pub passed : (a b : ℕ) → a ≡ 0 → or_ask a b ≡ b
unfolding or_ask
passed a b h = rw h refl

pub ruleset chain = (is_refusal, fills_no, fills_yes, answers_no, answers_yes)
